-- Proof of `SharedClaims::new`: a table of this layout, all words 0, and its hub, which has issued no number.
use Rattle.std.proofs.Common.{rules, ◌≡◌, ◌+◌, length, sym, ap, ◌∙◌, subst, [], ◌∷◌, replicate}
use Rattle.mb_shared_claims.specs.Types.{TableSize, Issuing}
use Rattle.mb_shared_claims.specs.Views.{claims_of_size}
use Rattle.mb_shared_claims.specs.ViewSteps.{Seated, roll_of}
use Rattle.mb_shared_claims.specs.Rule.{IsClaimsState, roster}
use Rattle.mb_shared_claims.specs.Seats.{count_out}
use Rattle.mb_shared_claims.proofs.Moves.{begins}
use Rattle.mb_shared_claims.proofs.table.SharedClaims.new.Goals as goal

-- the rule holds of words that are all 0 and of the hub's view
pub of_words-requires : goal.of_words-requires
of_words-requires g c =
    let k : TableSize = record { layout = c.args.layout; cells = c.args.cells } in
    let filled : c.in_ok-words.words.items ≡ replicate (c.words.result + 1) 0 = search rules in
    let is : c.as_slice.result.now ≡ replicate (roster k + 1) 0 =
    c.as_slice.ensures.value ∙ filled ∙ ap (λ n. replicate (n + 1) 0) c.words.ensures.exact in
    subst (λ ws. IsClaimsState k ws (Issuing k [] ∷ [])) (sym is)
    (begins k (c.histories_begin_with_zeros.ensures.memory (claims_of_size k)))

-- the new hub has an empty roll, and counts no number and no seat that is out
pub invariant_of-hub : goal.invariant_of-hub
invariant_of-hub g c =
    let k : TableSize = record { layout = c.args.layout; cells = c.args.cells } in
    let me : c.in_ok-table.seat.me ≡ (Issuing k [], []) = c.in_ok-table.ensures.4 in
    record {
      size = k;
      is = me ∙ sym (ap (λ (z : Seated). (Issuing k (roll_of z.0), [])) me);
      all = sym (ap (λ (z : Seated). length (roll_of z.0)) me);
      absent = sym (ap (λ (z : Seated). count_out (roll_of z.0)) me);
    }
