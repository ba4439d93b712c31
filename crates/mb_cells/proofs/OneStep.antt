-- The empty history is lawful, and a lawful one stays so with one access more, or without its newest accesses.
use Rattle.std.proofs.Common.{[], ap, arith, false, inl, inr, refl, subst, sym, ℕ, ◌++◌, ◌<◌, ◌^◌, ◌∙◌, ◌∷◌, ◌≡◌}
use Rattle.std.proofs.lemmas.Bool.{cases_Bool, cond_both}
use Rattle.mb_cells.specs.{ActFits, Counter, END, History, LaneIsAt, IsLanePrefix, IsPoolLawful, IsReaderPath, MayRead, PoolAccess, PoolSize, ProcessFits}
use Rattle.mb_cells.specs.{Producer, Reader, ReadsLast, Word, is_same_process, is_same_word, load, part, value_in}
use Rattle.mb_cells.specs.Place.{Open}
use Rattle.mb_cells.proofs.Histories.{lawful-tail, storer_of}
use Rattle.mb_cells.proofs.Names.{is_same_process-eq, is_same_word-eq, stores_or_not, value_in-kept, value_in-other, value_in-stored}
use Rattle.mb_cells.proofs.Places.{prefix_at}

-- a history stays lawful with an access that is in range, true to memory, and goes on with its producer's path
pub producer_step : (size : PoolSize) (h : History) (a : PoolAccess) (p : ℕ) → IsPoolLawful size h
    → a.process ≡ Producer p → p < size.lanes → ActFits a.act → ReadsLast a.word a.act h
    → IsLanePrefix size.cells p (a ∷ part (Producer p) h) → IsPoolLawful size (a ∷ h)
producer_step size h a p l who lane fits true_now path = record {
  sized = l.sized;
  fits = (fits, subst (ProcessFits size.lanes) (sym who) lane, l.fits);
  memory = (true_now, l.memory);
  producers = λ q. cond_both (is_same_process (Producer q) a.process) (a ∷ part (Producer q) h) (part (Producer q) h)
      (IsLanePrefix size.cells q)
      (λ own. let e : Producer q ≡ Producer p = is_same_process-eq (Producer q) a.process own ∙ who in
      let f : p ≡ q = cc in
      subst (λ x. IsLanePrefix size.cells x (a ∷ part (Producer x) h)) f path)
      (λ _. l.producers q);
  readers = λ r.
      let other : is_same_process (Reader r) a.process ≡ false =
      subst (λ x. is_same_process (Reader r) x ≡ false) (sym who) refl in
      rw other (l.readers r);
}

-- what a word other than the counter holds is below 2^64
value_in-fits : (size : PoolSize) (h : History) (w : Word) → IsPoolLawful size h → (w ≡ Counter → ⊥)
    → value_in w h < 2 ^ 64
value_in-fits size [] w l other = omega arith
value_in-fits size (a ∷ h) w l other =
    let rest = value_in-fits size h w (lawful-tail size a h l) other in
    elim (cases_Bool (is_same_word a.word w)) [
      | inl same ↦
          let here : a.word ≡ w = is_same_word-eq a.word w same in
          elim (stores_or_not a.act) [
            | inl stores ↦
                let by = storer_of size (a ∷ h) a stores.0 l (inl refl) stores.1 in
                let holds = value_in-stored a h w stores.0 here stores.1 in
                elim by.how [
                  | inl add ↦ absurd (other (sym here ∙ ap (λ (x : PoolAccess). x.word) add.1))
                  | inr own ↦ let fits : stores.0 < 2 ^ 64 = subst ActFits own.0 l.fits.0 in omega (arith, holds, fits)
                ]
            | inr none ↦ omega (arith, rest, value_in-kept a h w none)
          ]
      | inr differs ↦ omega (arith, rest, value_in-other a h w differs)
    ]

-- a reader may not load the counter
MayRead-counter : (lanes : ℕ) (d : History) (w : Word) → MayRead lanes w d → w ≡ Counter → ⊥
MayRead-counter lanes d w may is = subst (λ x. MayRead lanes x d) is may

-- a history stays lawful if a reader loads a word that it may load
pub reader_step : (size : PoolSize) (h : History) (r : ℕ) (w : Word) → IsPoolLawful size h
    → MayRead size.lanes w (part (Reader r) h)
    → IsPoolLawful size (load r w (value_in w h) ∷ h)
reader_step size h r w l may = record {
  sized = l.sized;
  fits = (value_in-fits size h w l (MayRead-counter size.lanes (part (Reader r) h) w may), tt, l.fits);
  memory = (refl, l.memory);
  producers = λ q. l.producers q;
  readers = λ s. cond_both (is_same_process (Reader s) (Reader r)) (load r w (value_in w h) ∷ part (Reader s) h)
      (part (Reader s) h)
      (IsReaderPath size.lanes)
      (λ own. let e : Reader s ≡ Reader r = is_same_process-eq (Reader s) (Reader r) own in
      let f : r ≡ s = cc in
      (tt, subst (λ x. MayRead size.lanes w (part (Reader x) h)) f may, l.readers s))
      (λ _. l.readers s);
}

-- a producer that has done nothing has linked no entry, and its phase is Open
pub start_at : (cells p : ℕ) → LaneIsAt cells p [] Open []
start_at cells p = record { below = tt; fits = tt; is = refl }

-- the empty history is lawful
pub empty_lawful : (size : PoolSize) → size.cells < END → IsPoolLawful size []
empty_lawful size c = record {
  sized = c;
  fits = tt;
  memory = tt;
  producers = λ p. prefix_at size.cells p [] Open [] (start_at size.cells p);
  readers = λ r. tt;
}

-- the older accesses of a lawful history are a lawful history
pub older_lawful : (size : PoolSize) (later older : History) → IsPoolLawful size (later ++ older)
    → IsPoolLawful size older
older_lawful size [] older l = l
older_lawful size (a ∷ later) older l = older_lawful size later older (lawful-tail size a (later ++ older) l)
