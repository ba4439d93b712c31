use Rattle.mb_segment.proofs.Base.{List, arith, get_elem?, inl, inr, refl, some, some-injective, some-ne-none}
use Rattle.mb_segment.proofs.Base.{subst, suc, sym, zero, ℕ, ⊎_elim, ◌≡◌}
use Rattle.mb_segment.specs.SegmentSamples.{receiver, sender, with_names}
use Rattle.mb_segment.specs.Vocabulary.{Account, Has, Spot}
use Rattle.mb_segment.proofs.Spots.{no_some, same_some}
use Rattle.mb_segment.proofs.samples.sample_fates.Goals as goal

abbrev sends : Account ℕ
sends = record sender { name = 7 }

abbrev gets : Account ℕ
gets = record receiver { name = 8 }

-- one that has a value among those it sent, or those it got, is the sender, or the receiver
module _ (is : Account ℕ → Type 0) where
  of_sender : is sends → (k i : ℕ) (a : Account ℕ) (x : ℕ) → get_elem? with_names i ≡ some a → Has k x a.sent → is a
  of_sender yes_ k zero a x at has = subst is (some-injective sends a at) yes_
  of_sender yes_ k (suc zero) a x at has =
      absurd (subst (λ (b : Account ℕ). Has k x b.sent) (sym (some-injective gets a at)) has)
  of_sender yes_ k (suc (suc i)) a x at has = absurd (some-ne-none a (sym at))

  of_receiver : is gets → (k i : ℕ) (a : Account ℕ) (x : ℕ) → get_elem? with_names i ≡ some a → Has k x a.got → is a
  of_receiver yes_ k zero a x at has =
      absurd (subst (λ (b : Account ℕ). Has k x b.got) (sym (some-injective sends a at)) has)
  of_receiver yes_ k (suc zero) a x at has = subst is (some-injective gets a at) yes_
  of_receiver yes_ k (suc (suc i)) a x at has = absurd (some-ne-none a (sym at))

not_two : (x : ℕ) → Has 2 x sender.sent → ⊥
not_two x has = ⊎_elim (λ t. let q = t.0 in absurd (omega arith))
    (λ h. ⊎_elim (λ t. let q = t.0 in absurd (omega arith)) (λ n. n) h) has

not_one : (x : ℕ) → Has 1 x receiver.got → ⊥
not_one x has = ⊎_elim (λ t. let q = t.0 in absurd (omega arith)) (λ n. n) has

-- nobody sent at position 2, or got the value of position 1
none_sent : (i : ℕ) (a : Account ℕ) (x : ℕ) → get_elem? with_names i ≡ some a → Has 2 x a.sent → ⊥
none_sent i a x at has =
    not_two x (subst (λ (l : List (Spot ℕ)). Has 2 x l)
    (of_sender (λ b. b.sent ≡ sender.sent) refl 2 i a x at has) has)

none_got : (i : ℕ) (a : Account ℕ) (x : ℕ) → get_elem? with_names i ≡ some a → Has 1 x a.got → ⊥
none_got i a x at has =
    not_one x (subst (λ (l : List (Spot ℕ)). Has 1 x l)
    (of_receiver (λ b. b.got ≡ receiver.got) refl 1 i a x at has) has)

pub returns-clause-received : goal.returns-clause-received
returns-clause-received c = record {
  sent = (0, sends, refl, 10, inl (refl, refl));
  sender = of_sender (λ a. _ ≡ _) refl 0;
  receiver = of_receiver (λ a. _ ≡ _) refl 0;
  got = inr (1, gets, refl, 10, inl (refl, refl));
}

pub returns-clause-swapped : goal.returns-clause-swapped
returns-clause-swapped c f =
    let e = same_some 8 7 (f.sender 0 sends 10 refl (inl (refl, refl))) in absurd (omega arith)

pub returns-clause-waits : goal.returns-clause-waits
returns-clause-waits c = record {
  sent = (0, sends, refl, 11, inr (inl (refl, refl)));
  sender = of_sender (λ a. _ ≡ _) refl 1;
  receiver = λ i a x at has. absurd (none_got i a x at has);
  got = inl refl;
}

pub returns-clause-from_nowhere : goal.returns-clause-from_nowhere
returns-clause-from_nowhere c f =
    ⊎_elim (λ e. no_some 8 (sym e)) (λ t. none_got t.0 t.1 t.3 t.2 t.4) f.got

pub returns-clause-unsent : goal.returns-clause-unsent
returns-clause-unsent c = (
  λ t. none_sent t.0 t.1 t.3 t.2 t.4,
  λ no_. no_ (0, sends, refl, 11, inr (inl (refl, refl))),
)

pub returns-clause-made_up : goal.returns-clause-made_up
returns-clause-made_up c f = none_sent f.sent.0 f.sent.1 f.sent.3 f.sent.2 f.sent.4
