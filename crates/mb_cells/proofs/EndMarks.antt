-- An end mark is its producer's last access, past the lane's last cell. If a reader loaded it, the lane has ended.
use Rattle.std.proofs.Common.{Bool, List, [], ap, arith, cond, eq-eqb, false, inl, inr, ne_eqb, refl, subst, sym, true, ℕ, ◌++◌, ◌+◌, ◌<◌, ◌||◌, ◌∙◌, ◌∷◌, ◌≡◌}
use Rattle.std.specs.Prelude.{nat_eq}
use Rattle.std.proofs.lemmas.Bool.{cases_Bool, false≢true}
use Rattle.mb_cells.specs.{AllCellsBelow, END, Entry, HasLoaded, HasMet, History, LaneIsAt, IsLanePrefix, IsPoolLawful, Phase, PoolAccess, PoolSize, Process}
use Rattle.mb_cells.specs.{Producer, Steps, Store, ends_lane, ends_refused, fills_cell, finds_none, groups, has_ended, is_same_process, linked_cells}
use Rattle.mb_cells.specs.{links_cell, marks_end, part, part_at, place_after, place_past, takes_cell, value_in}
use Rattle.mb_cells.specs.Place.{Ended, Full, Offered, Open, Stored}
use Rattle.mb_cells.proofs.Histories.{cells_at, cells_of, lawful-tail, link-place, met_all, next_is, place_of, stays}
use Rattle.mb_cells.proofs.Parts.{part-other, part-own}
use Rattle.mb_cells.proofs.Places.{steps_only}
use Rattle.mb_cells.proofs.ProducerWords.{end_value}

-- a process's part of two histories joined is its parts of both, joined
part-append : (who : Process) (x y : History) → part who (x ++ y) ≡ part who x ++ part who y
part-append who [] y = refl
part-append who (a ∷ x) y =
    elim (cases_Bool (is_same_process who a.process)) [
      | inl own ↦ rw own (ap (λ l. a ∷ l) (part-append who x y))
      | inr other ↦ rw other (part-append who x y)
    ]

-- whether a producer in this phase has stored its end mark
abbrev pub is_ended : Phase → Bool
is_ended Open = false
is_ended (Offered _) = false
is_ended (Stored _) = false
is_ended (Full _) = false
is_ended (Ended _) = true

-- a producer makes a step only from a phase in which it has not stored its end mark
steps_open : (cells p : ℕ) (es fs : List Entry) (was now : Phase) (a : PoolAccess) → Steps cells p es was a fs now
    → is_ended was ≡ false
steps_open cells p es fs was now a (takes_cell _ e b) = refl
steps_open cells p es fs was now a (finds_none _ e b) = refl
steps_open cells p es fs was now a (fills_cell _ e) = refl
steps_open cells p es fs was now a (links_cell _ e) = refl
steps_open cells p es fs was now a (ends_lane _) = refl
steps_open cells p es fs was now a (ends_refused _ e) = refl

-- whether a lane has ended is the same in its producer's part as in the whole history
pub has_ended-part : (p : ℕ) (h : History) → has_ended p h ≡ has_ended p (part (Producer p) h)
has_ended-part p [] = refl
has_ended-part p (a ∷ h) =
    elim (cases_Bool (is_same_process (Producer p) a.process)) [
      | inl own ↦ rw (own, own) (ap (λ z. marks_end a.word a.act || z) (has_ended-part p h))
      | inr other ↦ rw other (has_ended-part p h)
    ]

-- a store of v to the word past a lane's last entry stores the end mark exactly if v is the end mark
marks-link : (p : ℕ) (es : List Entry) (v : ℕ) → marks_end (place_after p es) (Store v) ≡ nat_eq v END
marks-link p [] v = refl
marks-link p (e ∷ es) v = refl

-- a producer that has made groups alone has not ended its lane
open-groups : (p cells : ℕ) (es : List Entry) → cells < END → AllCellsBelow cells es → has_ended p (groups p es) ≡ false
open-groups p cells [] c b = refl
open-groups p cells (e ∷ es) c b =
    let ne : nat_eq (e.cell + 1) END ≡ false = ne_eqb (e.cell + 1) END (λ x. absurd (omega (arith, b.0))) in
    rw (eq-eqb p p refl, marks-link p es (e.cell + 1), ne) (open-groups p cells es c b.1)

-- a producer that has linked these entries and is in this phase has ended its lane exactly if the phase is Ended
has_ended-part_at : (p cells : ℕ) (es : List Entry) (phase : Phase) → cells < END → AllCellsBelow cells es
    → has_ended p (part_at p es phase) ≡ is_ended phase
has_ended-part_at p cells es Open c b = open-groups p cells es c b
has_ended-part_at p cells es (Offered e) c b = rw (eq-eqb p p refl) (open-groups p cells es c b)
has_ended-part_at p cells es (Stored e) c b = rw (eq-eqb p p refl) (open-groups p cells es c b)
has_ended-part_at p cells es (Full e) c b = rw (eq-eqb p p refl) (open-groups p cells es c b)
has_ended-part_at p cells es (Ended r) c b = rw (eq-eqb p p refl, marks-link p es END) refl

-- if producer p is at this place in a history, its lane has ended exactly if the phase is Ended
pub ended_is : (cells p : ℕ) (h : History) (es : List Entry) (phase : Phase) → cells < END
    → LaneIsAt cells p es phase (part (Producer p) h) → has_ended p h ≡ is_ended phase
ended_is cells p h es phase c at =
    has_ended-part p h ∙ ap (has_ended p) at.is ∙ has_ended-part_at p cells es phase c at.below

-- once a lane has ended its producer makes no access
pub after_end : (size : PoolSize) (later older : History) (p : ℕ) → IsPoolLawful size (later ++ older)
    → has_ended p older ≡ true → part (Producer p) later ≡ []
after_end size [] older p l ended = refl
after_end size (a ∷ later) older p l ended =
    let before : IsPoolLawful size (later ++ older) = lawful-tail size a (later ++ older) l in
    let none : part (Producer p) later ≡ [] = after_end size later older p before ended in
    let rest : part (Producer p) (later ++ older) ≡ part (Producer p) older =
    part-append (Producer p) later older ∙ ap (λ x. x ++ part (Producer p) older) none in
    let place = place_of size (later ++ older) p before in
    let at_end : is_ended place.phase ≡ true =
    sym (ended_is size.cells p (later ++ older) place.entries place.phase l.sized place.at)
    ∙ has_ended-part p (later ++ older)
    ∙ ap (has_ended p) rest ∙ sym (has_ended-part p older) ∙ ended in
    elim (cases_Bool (is_same_process (Producer p) a.process)) [
      | inl own ↦
          let prefix : IsLanePrefix size.cells p (a ∷ part (Producer p) (later ++ older)) =
          subst (IsLanePrefix size.cells p) (part-own (Producer p) a (later ++ older) own) (l.producers p) in
          let next = steps_only size.cells p place.entries place.phase a
          (part (Producer p) (later ++ older)) place.at prefix in
          absurd (false≢true (sym (steps_open size.cells p place.entries next.entries place.phase next.then a next.step)
          ∙ at_end))
      | inr other ↦ part-other (Producer p) a later other ∙ none
    ]

-- the word past the cells of a list of entries is the word past the entries themselves
place_cells : (p : ℕ) (es : List Entry) → place_past p (cells_of es) ≡ place_after p es
place_cells p [] = refl
place_cells p (e ∷ es) = refl

-- the value of the word past the last cell (`end_value`) is the end mark if the phase is Ended, else 0
ended-value : (phase : Phase) → end_value phase ≡ cond (is_ended phase) END 0
ended-value Open = refl
ended-value (Offered _) = refl
ended-value (Stored _) = refl
ended-value (Full _) = refl
ended-value (Ended _) = refl

-- the word past the last cell of a lane holds the end mark if the lane has ended, else 0
pub end_word : (size : PoolSize) (h : History) (p : ℕ) → IsPoolLawful size h
    → value_in (place_past p (linked_cells p h)) h ≡ cond (has_ended p h) END 0
end_word size h p l =
    let place = place_of size h p l in
    ap (λ x. value_in (place_past p x) h) (cells_at size p h place.entries place.phase l.sized place.at)
    ∙ ap (λ w. value_in w h) (place_cells p place.entries)
    ∙ next_is size p h place.entries place.phase l place.at ∙ ended-value place.phase
    ∙ ap (λ x. cond x END 0) (sym (ended_is size.cells p h place.entries place.phase l.sized place.at))

-- if a reader loaded the end mark past the cells of lane p that it met, lane p has ended
pub end_told : (size : PoolSize) (h : History) (r p : ℕ) (ks : List ℕ) → IsPoolLawful size h → HasMet r p ks h
    → HasLoaded r (place_past p ks) END h → has_ended p h ≡ true
end_told size h r p ks l met loaded =
    let all : ks ≡ linked_cells p h = met_all size h r p ks l met loaded in
    let holds : value_in (place_past p ks) h ≡ END =
    stays size h r (place_past p ks) END l (link-place p ks) loaded (λ e. absurd (omega arith)) in
    let word : cond (has_ended p h) END 0 ≡ END =
    sym (end_word size h p l) ∙ ap (λ x. value_in (place_past p x) h) (sym all) ∙ holds in
    elim (cases_Bool (has_ended p h)) [
      | inl is ↦ is
      | inr not_yet ↦ absurd (let zero_end : 0 ≡ END = sym (ap (λ b. cond b END 0) not_yet) ∙ word in omega arith)
    ]
