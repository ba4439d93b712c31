use Rattle.std.proofs.Common.{ℕ, zero, suc, None, is_some, true≢false, List, [], ◌∷◌, ◌++◌, ◌≡◌, length, sym, refl, ap, subst, arith}
use mathlib.Core.Option.{some, some-injective, some-ne-none}
use lib.ListN.{get_elem?}
use Rattle.mb_segment.specs.History.{Claim, Entry, History, entries, values}
use Rattle.mb_segment.specs.Passes.{In, Match}
use Rattle.mb_segment.specs.Whole.{IsWhole as IsToldWhole}
use Rattle.mb_channel.specs.Homes.{IsDone}
use Rattle.mb_channel.proofs.samples.sample_visits.Goals as goal

nobody_did : IsToldWhole {T = ℕ} [] []
nobody_did = record {
  history = record { claims = []; rest = []; cutter = None };
  numbers = [];
  apart = tt;
  accounts_ = tt;
  senders = λ k e at. absurd (some-ne-none e (sym at));
  receivers = λ k c at. absurd (some-ne-none c (sym at));
  closer = λ n e. absurd (true≢false (sym (ap is_some e)));
  left_is = refl;
  heeds = tt;
}

-- where a value is left, there is an entry
first_entry : (cs : List (Claim ℕ)) (es : List (Entry ℕ)) → 11 ∷ [] ≡ values es
    → (e : Entry ℕ) × (get_elem? (entries cs ++ es) 0 ≡ some e)
first_entry [] [] v = let n = ap length v in absurd (omega (arith, n))
first_entry [] (e ∷ es) v = (e, refl)
first_entry (c ∷ cs) es v = (c.entry, refl)

no_one : (h : History ℕ) (ns : List ℕ) (n : ℕ) → Match h ns [] → In n ns → ⊥
no_one h [] n is here = here
no_one h (k ∷ ns) n is here = is

pub returns-clause-ended : goal.returns-clause-ended
returns-clause-ended c h e = (subst (λ xs. IsToldWhole xs []) (sym e) nobody_did, (λ _. refl), tt)

pub returns-clause-unsent : goal.returns-clause-unsent
returns-clause-unsent c h e x = let w = subst (λ xs. IsToldWhole xs (11 ∷ [])) e x.0 in
    let f = first_entry w.history.claims w.history.rest w.left_is in
    no_one w.history w.numbers f.0.by w.accounts_ (w.senders 0 f.0 f.1)

pub returns-clause-next : goal.returns-clause-next
returns-clause-next c h g done zero lt = (h, refl, done)
returns-clause-next c h g done (suc j) lt = absurd (omega (arith, lt))

pub returns-clause-past : goal.returns-clause-past
returns-clause-past c h g no_ done next = let r = next 0 (omega arith) in
    no_ (subst (λ x. IsDone x) (sym (some-injective h r.0 r.1)) r.2)
