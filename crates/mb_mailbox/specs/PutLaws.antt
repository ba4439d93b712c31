-- The laws of the cells from which the contracts of a producer's calls follow.
use Rattle.std.specs.Prelude.{ℕ, ◌≡◌, ◌≢◌, ◌↔◌, ◌+◌, ◌≤◌, ◌++◌, [], ◌∷◌, Some, false, length, true}
use Rattle.mb_cells.specs.declared.access.PoolAccess.{PoolAccess}
use Rattle.mb_cells.specs.declared.access.Process.{Process}
use Rattle.mb_cells.specs.declared.access.Word.{Word}
use Rattle.mb_cells.specs.declared.answer.Finish.TheVariants as finish
use Rattle.mb_cells.specs.declared.answer.Offer.TheVariants as offer
use Rattle.mb_cells.specs.declared.lane.Lane.{Lane}
use Rattle.mb_cells.specs.Vocabulary.{Entry, HasFoundNone, IsLaneAfter, IsLinkWord, entry_at}
use Rattle.mb_cells.specs.Vocabulary.{fetch, finish_refusal, offer_refusal, put_list, store}
use Rattle.mb_mailbox.specs.Imports.{END, Has, History, IsPoolLawful, Item, PoolSize, Producer, has_ended, part}

-- the laws from which the contracts of a producer's calls follow: of parts, and of lanes in lawful histories
pub record PutLaws : Type 0 where
  pub few : (size : PoolSize) (h : History) (p : ℕ) → IsPoolLawful size h → length (put_list p h) ≤ size.cells
  pub put : (size : PoolSize) (h : History) (p : ℕ) → IsPoolLawful size h
      → put_list p h ≡ put_list p (part (Producer p) h)
  pub ended : (h : History) (p : ℕ) → has_ended p h ≡ has_ended p (part (Producer p) h)
  pub own : (h : History) (a : PoolAccess) → part a.process (a ∷ h) ≡ a ∷ part a.process h
  pub older : (size : PoolSize) (later older : History) → IsPoolLawful size (later ++ older) → IsPoolLawful size older
  pub all : (h : History) (who : Process) (a : PoolAccess) → Has h a → a.process ≡ who → Has (part who h) a
  pub only : (h : History) (who : Process) (a : PoolAccess) → Has (part who h) a → Has h a × (a.process ≡ who)
  pub link : (h : History) (p k : ℕ) (w : Word) → IsLinkWord w → k + 1 ≢ END
      → put_list p (store p w (k + 1) ∷ h) ≡ put_list p h ++ entry_at k h ∷ []
  pub fetched : (size : PoolSize) (h : History) (p q : ℕ) (e : Entry) → IsPoolLawful size (fetch p e ∷ h)
      → put_list q (fetch p e ∷ h) ≡ put_list q h
  pub item : (h : History) (p q k v : ℕ) → put_list q (store p (Item k) v ∷ h) ≡ put_list q h
  pub end : (h : History) (p q : ℕ) (w : Word) → IsLinkWord w → put_list q (store p w END ∷ h) ≡ put_list q h
  pub closed : (size : PoolSize) (h : History) (p : ℕ) (lane : Lane) → IsPoolLawful size h
      → IsLaneAfter size.cells p lane (part (Producer p) h)
      → (offer_refusal lane ≡ Some offer.Closed) ↔ (has_ended p h ≡ true)
  pub full : (size : PoolSize) (h : History) (p : ℕ) (lane : Lane) → IsPoolLawful size h
      → IsLaneAfter size.cells p lane (part (Producer p) h)
      → (offer_refusal lane ≡ Some offer.Full) ↔ ((has_ended p h ≡ false) × HasFoundNone size.cells p h)
  pub over : (size : PoolSize) (h : History) (p : ℕ) (lane : Lane) → IsPoolLawful size h
      → IsLaneAfter size.cells p lane (part (Producer p) h)
      → (finish_refusal lane ≡ Some finish.Closed) ↔ (has_ended p h ≡ true)
