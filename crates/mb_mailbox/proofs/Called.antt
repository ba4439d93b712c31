-- What holds of the calls of a worker: of no call, and still with one call more.
use Rattle.std.proofs.Common.{◌≡◌, ℕ, suc, ◌<◌, ◌≤◌, ⊎_elim, [], ◌∷◌, refl, sym, ap, ◌∙◌, subst, arith}
use Rattle.std.proofs.Math.Nat.{le-suc_iff}
use Rattle.mb_mailbox.specs.Imports.{Stream}
use Rattle.mb_mailbox.specs.Calls.{ArePassed, HasCalled}
use Rattle.mb_mailbox.specs.Consumers.{ConsumerView}
use Rattle.mb_mailbox.specs.Steps.{IsPollOf}
use Rattle.mb_mailbox.specs.declared.consumer.Poll.{Poll}
use Rattle.mb_mailbox.specs.declared.gate.Who.{Who}
use Rattle.mb_mailbox.specs.declared.gate.Who.TheVariants as who

module _ (may_pass : Who → ℕ → Type 0) where
  -- if no call was made, the gate let each call through
  pub none_passed : (w : Who) (calls : ℕ) → calls ≡ 0 → ArePassed may_pass w calls
  none_passed w calls none n low high = absurd (omega (arith, none, low, high))

  -- if the gate let these calls and one call more through, it let all of them through
  pub passed_more : (w : Who) (calls now : ℕ) → now ≡ suc calls → ArePassed may_pass w calls
      → may_pass w now → ArePassed may_pass w now
  passed_more w calls now e was one n low high =
      ⊎_elim (λ (h : n ≤ calls). was n low h) (λ (h : n ≡ suc calls). subst (λ (k : ℕ). may_pass w k) (e ∙ sym h) one)
      (le-suc_iff.0 (subst (λ (k : ℕ). n ≤ k) e high))

  -- a consumer that did nothing has made no call
  pub none_called : (from end budget calls : ℕ) (s : Stream) (old : ConsumerView) → calls ≡ 0
      → HasCalled may_pass from end budget calls s s old old
  none_called from end budget calls s old none = record {
    made = [];
    count = sym none;
    each = (refl, refl);
    passed = none_passed (who.Consumer old.seat.consumer) calls none;
  }

  -- if a consumer has made these calls, and then one poll more that the gate let through, it has made one call more
  pub called_more : (from end budget calls now lane : ℕ) (answer : Poll) (s u t : Stream)
      (old mid new : ConsumerView) → now ≡ suc calls
      → HasCalled may_pass from end budget calls s u old mid → from ≤ lane → lane < end
      → IsPollOf lane budget answer u t mid new → may_pass (who.Consumer old.seat.consumer) now
      → HasCalled may_pass from end budget now s t old new
  called_more from end budget calls now lane answer s u t old mid new e was low high poll one = record {
    made = record { lane = lane; answer = answer } ∷ was.made;
    count = ap suc was.count ∙ sym e;
    each = (u, mid, was.each, record { low = low; high = high; poll = poll });
    passed = passed_more (who.Consumer old.seat.consumer) calls now e was.passed one;
  }
