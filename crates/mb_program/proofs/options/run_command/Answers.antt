-- Proof of `run_command`, which returns the command `run`, as clap describes it.
use Rattle.std.proofs.Common.{◌||◌, ◌∙◌, ap₂, refl}
use Rattle.std.proofs.lemmas.Result.{IfOk-weaker}
use Rattle.clap.specs.Words.{with_rule}
use Rattle.mb_program.proofs.options.run_command.Goals as goal

-- Seven options are added one by one. `rules_N` gives the app after N of them. `local_N` says that none of these N is
-- global
pub returns : goal.returns
returns c =
    let one = c.in_ok-arg.ensures in
    let two = c.in_ok-arg-2.ensures in
    let three = c.in_ok-arg-3.ensures in
    let four = c.in_ok-arg-4.ensures in
    let five = c.in_ok-arg-5.ensures in
    let six = c.in_ok-arg-6.ensures in
    let rules_1 = one.shape c.any_number.ensures.local
    ∙ ap₂ with_rule c.named_subcommand.ensures.app c.any_number.ensures.rule in
    let rules_2 = two.shape c.any_number-2.ensures.local ∙ ap₂ with_rule rules_1 c.any_number-2.ensures.rule in
    let rules_3 = three.shape c.any_number-3.ensures.local ∙ ap₂ with_rule rules_2 c.any_number-3.ensures.rule in
    let rules_4 = four.shape c.any_number-4.ensures.local ∙ ap₂ with_rule rules_3 c.any_number-4.ensures.rule in
    let rules_5 = five.shape c.number.ensures.local ∙ ap₂ with_rule rules_4 c.number.ensures.rule in
    let rules_6 = six.shape c.any_number-5.ensures.local ∙ ap₂ with_rule rules_5 c.any_number-5.ensures.rule in
    let local_1 = one.globals ∙ ap₂ ◌||◌ c.named_subcommand.ensures.local c.any_number.ensures.local in
    let local_2 = two.globals ∙ ap₂ ◌||◌ local_1 c.any_number-2.ensures.local in
    let local_3 = three.globals ∙ ap₂ ◌||◌ local_2 c.any_number-3.ensures.local in
    let local_4 = four.globals ∙ ap₂ ◌||◌ local_3 c.any_number-4.ensures.local in
    let local_5 = five.globals ∙ ap₂ ◌||◌ local_4 c.number.ensures.local in
    let local_6 = six.globals ∙ ap₂ ◌||◌ local_5 c.any_number-5.ensures.local in
    record {
      app = IfOk-weaker c.arg-7.result _ _
          (λ r seven. (
            _,
            refl,
            seven.shape c.named.ensures.local
                ∙ ap₂ with_rule rules_6 c.named.ensures.rule,
          )) c.arg-7.ensures;
      local = IfOk-weaker c.arg-7.result _ _
          (λ r seven. seven.globals ∙ ap₂ ◌||◌ local_6 c.named.ensures.local) c.arg-7.ensures;
    }
