-- Proof of `ClaimWords::step`: makes the next access of a claim on its cell, with the random word of this step.
use Rattle.std.proofs.Common.{◌≡◌, ◌∷◌, sym, ◌∙◌, ap, subst, arith}
use Rattle.mb_deciding.specs.Vocabulary.{IsActInWords, act_of}
use Rattle.mb_claim.specs.{ClaimAccess, part_on, claims_in, consumer_of, IsClaimIn, CanClaimFind, IsMemoryOf, found_in}
use Rattle.mb_claim.specs.{access_in, step_of}
use Rattle.mb_claim.proofs.claim_words.ClaimWords.step.Goals as goal

pub returns-clause-held : goal.returns-clause-held
returns-clause-held g c cells h on =
    let layout = c.args.layout.now in
    let cs = claims_in layout cells in
    let cell = c.args.cell in
    let claim = c.args.claim.now in
    let now = c.step-stage.new.self in
    let step = c.step-stage.ensures.step in
    let next = step.next in
    let words = c.self.inside.words.items in
    let mine = part_on (consumer_of claim) cell h in
    let memory = subst (λ ws. IsMemoryOf cs ws h) (sym c.self.view_is) on.memory in
    let found : step.seen ≡ found_in cs cell next.object next.op words = step.made.0 in
    let fits = subst (CanClaimFind layout claim next) (sym found)
    (c.claims_make_steps.ensures.found layout cells cell claim next words h memory on.cell on.standing c.requires.going
    step.is) in
    let path : IsClaimIn layout now
    (step_of next.object next.op (found_in cs cell next.object next.op words) c.args.word ∷ mine) =
    subst (λ n. IsClaimIn layout now (step_of next.object next.op n c.args.word ∷ mine)) found
    (step.path mine on.standing fits) in
    let access : ClaimAccess = access_in cs (consumer_of claim) cell next.object next.op c.args.word words in
    rw (step.made.3, step.made.1, found) (record {
      cell = on.cell;
      memory =
          c.claims_make_steps.ensures.memory layout cells cell claim next c.args.word words h memory on.cell on.standing
          c.requires.going step.is (subst (λ n. IsActInWords (act_of next.op n)) found step.made.4, omega arith);
      standing =
          subst (IsClaimIn layout now)
          (sym (c.accesses_lengthen_one_part.ensures.own_cell access h)
          ∙ ap (λ d. part_on d cell (access ∷ h)) (sym c.step-stage.ensures.consumer)) path;
    })
