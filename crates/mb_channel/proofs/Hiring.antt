-- An end counts for one sender more, or sees that none is left.
use Rattle.std.proofs.Common.{ℕ, true, false, refl, arith}
use Rattle.std.proofs.Common.{◌≡◌, ◌+◌, ◌<◌, ◌∙◌}
use Rattle.std.specs.Prelude.{◌==◌, slice_index}
use mathlib.Core.Option.{none}
use native.Mathlib.Decide.{ℕ_discrete}
use prog.Atomic.{either}
use Rattle.atomic_table.specs.Table.{Act, keeps, step, stepped, Allows, Valid, carried_after}
use Rattle.atomic_table.proofs.Lists.{exchanged}
use Rattle.mb_channel.specs.Types.{Homes, Knows}
use Rattle.mb_channel.specs.Homes.{Keeps, Sat}
use Rattle.mb_channel.specs.Tallies.{hiring, saw_none}
use Rattle.mb_channel.proofs.Closing.{sees_none}
use Rattle.mb_channel.proofs.Members.{hires_one, senders_word}
use Rattle.mb_channel.proofs.Views.{not_true}

module _ {T : Type 0} where
  pub hires : (slots id seen new : ℕ) (me : Sat T) → me.0.live ≡ true → 0 < seen → new ≡ seen + 1
      → Allows Keeps slots id me 2 (λ n. either (n == seen) new n) (hiring (step slots 2 seen new none) me)
  hires slots id seen new me live some_ one s k len at small = go (ℕ_discrete (slice_index s.words 2) 0)
    where
      go : Dec (slice_index s.words 2 ≡ 0) → (w : Knows T) × (a : Act (Homes T)) × Valid s.homes me.1 a
          × Keeps (stepped s 2 (either (slice_index s.words 2 == seen) new (slice_index s.words 2)) id me.1 w a)
          × hiring (step slots 2 seen new none) me (slice_index s.words 2) (w, carried_after me.1 a)
      go (yes e) = exchanged (slice_index s.words 2) seen new
          (λ m. (w : Knows T) × (a : Act (Homes T)) × Valid s.homes me.1 a × Keeps (stepped s 2 m id me.1 w a)
          × hiring (step slots 2 seen new none) me (slice_index s.words 2) (w, carried_after me.1 a))
          (λ q. absurd (omega arith))
          (λ _. let x = sees_none s k id me.0 at live e in
          (saw_none me.0, keeps, tt, x.0, ((λ _. (refl, refl, x.1)), λ ne. absurd (ne e))))
      go (no ne) = let h = hires_one slots id seen new me live some_ one s k len at small in
          let some_left : me.0.alone ≡ false = not_true me.0.alone
          (λ q. ne (senders_word s k ∙ (k.told id me.0 at).alone q)) in
          (h.0, h.1, h.2, h.3, ((λ e. absurd (ne e)), λ _. (some_left, h.4)))
