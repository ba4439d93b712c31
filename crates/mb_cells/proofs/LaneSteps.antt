-- A producer's place as a plain value, from one access to the next.
use Rattle.std.proofs.Common.{List, None, Some, [], ap, inl, inr, refl, subst, sym, ℕ, ◌+◌, ◌<◌, ◌∙◌, ◌∷◌, ◌≡◌, ◌≤◌}
use Rattle.std.specs.Prelude.{nat_lt}
use Rattle.std.proofs.lemmas.Bool.{cases_Bool, ltb-false, ltb-true}
use Rattle.mb_cells.specs.declared.lane.LaneStage.TheVariants as stage
use Rattle.mb_cells.specs.Place as phase
use Rattle.mb_cells.specs.{END, Entry, History, LaneIsAt, IsLaneAfter, IsLanePrefix, Item, Lane, Phase, Word, ends_lane, ends_refused, fetch, fills_cell}
use Rattle.mb_cells.specs.{finds_none, finish_refusal, is_full, lane_after_finish, lane_after_offer, lane_after_push, last_after_push, last_of}
use Rattle.mb_cells.specs.{link_after, links_cell, new_lane, next_link, offer_refusal, place_after, push_store, stage_after_push, stage_finish_refusal}
use Rattle.mb_cells.specs.{stage_of, stage_offer_refusal, stage_push_store, store, takes_cell}
use Rattle.mb_cells.proofs.OneStep.{start_at}
use Rattle.mb_cells.proofs.Places.{goes_on, one_place, prefix_at, somewhere}

-- a producer that has done nothing is at `new_lane`
pub start_lane : (cells p : ℕ) → IsLaneAfter cells p new_lane []
start_lane cells p = record { entries = []; phase = phase.Open; at = start_at cells p; last = refl; stage = refl }

-- a producer whose part is a prefix of a lane path has a place as a plain value
pub some_lane : (cells p : ℕ) (done : History) → IsLanePrefix cells p done
    → (lane : Lane) × IsLaneAfter cells p lane done
some_lane cells p done prefix =
    let s = somewhere cells p done prefix in (
      record { last = last_of s.entries; stage = stage_of s.phase },
      record { entries = s.entries; phase = s.phase; at = s.at; last = refl; stage = refl },
    )

-- two places, as plain values, of a producer that has done this are equal
pub same_lane : (cells p : ℕ) (lane other : Lane) (done : History) → IsLaneAfter cells p lane done
    → IsLaneAfter cells p other done → lane ≡ other
same_lane cells p lane other done x y =
    let one = one_place cells p x.entries y.entries x.phase y.phase done x.at y.at in
    let last : lane.last ≡ other.last = x.last ∙ ap last_of one.0 ∙ sym y.last in
    let stage : lane.stage ≡ other.stage = x.stage ∙ ap stage_of one.1 ∙ sym y.stage in
    ap (λ z. record { last = z; stage = lane.stage }) last ∙ ap (λ z. record { last = other.last; stage = z }) stage

-- if `lane` is the place of a producer that has done this, what it has done is a prefix of a lane path
pub lane_prefix : (cells p : ℕ) (lane : Lane) (done : History) → IsLaneAfter cells p lane done
    → IsLanePrefix cells p done
lane_prefix cells p lane done x = prefix_at cells p x.entries x.phase done x.at

-- the word past the entries is the link word of the last entry's cell, or the head if there is none
link_place : (p : ℕ) (es : List Entry) → link_after p (last_of es) ≡ place_after p es
link_place p [] = refl
link_place p (e ∷ es) = refl

-- the word that a producer's place names for its next link is the word past its entries
pub next_place : (p : ℕ) (lane : Lane) (es : List Entry) → lane.last ≡ last_of es → next_link p lane ≡ place_after p es
next_place p lane es is = ap (link_after p) is ∙ link_place p es

-- if the stage of a phase refuses no offer, the phase is Open
open_of : (z : Phase) → stage_offer_refusal (stage_of z) ≡ None → z ≡ phase.Open
open_of phase.Open is = refl
open_of (phase.Offered e) is = absurd (cc)
open_of (phase.Stored e) is = absurd (cc)
open_of (phase.Full e) is = absurd (cc)
open_of (phase.Ended None) is = absurd (cc)
open_of (phase.Ended (Some e)) is = absurd (cc)

-- if an offer is not refused, then after its fetch-add the producer stands where `lane_after_offer` says
pub offered_lane : (cells p : ℕ) (lane : Lane) (done : History) (e : Entry) → IsLaneAfter cells p lane done
    → offer_refusal lane ≡ None
    → IsLaneAfter cells p (lane_after_offer cells e.value e.cell lane) (fetch p e ∷ done)
offered_lane cells p lane done e x going =
    let start : x.phase ≡ phase.Open = open_of x.phase (ap stage_offer_refusal (sym x.stage) ∙ going) in
    let at : LaneIsAt cells p x.entries phase.Open done = subst (λ z. LaneIsAt cells p x.entries z done) start x.at in
    elim (cases_Bool (nat_lt e.cell cells)) [
      | inl low ↦
          let b : e.cell < cells = ltb-true e.cell cells low in
          record {
            entries = x.entries;
            phase = phase.Offered e;
            at = goes_on cells p x.entries x.entries phase.Open (phase.Offered e) (fetch p e) done
                (takes_cell x.entries e b) at;
            last = x.last;
            stage = rw low refl;
          }
      | inr high ↦
          let b : cells ≤ e.cell = ltb-false e.cell cells high in
          record {
            entries = x.entries;
            phase = phase.Full e;
            at = goes_on cells p x.entries x.entries phase.Open (phase.Full e) (fetch p e) done
                (finds_none x.entries e b) at;
            last = x.last;
            stage = rw high refl;
          }
    ]

-- after the store of a push the producer stands where `lane_after_push` says, whatever its phase was
pushed_at : (cells p : ℕ) (lane : Lane) (done : History) (es : List Entry) (phase : Phase) (s : Word × ℕ)
    → LaneIsAt cells p es phase done → lane.last ≡ last_of es → lane.stage ≡ stage_of phase
    → push_store p lane ≡ Some s → IsLaneAfter cells p (lane_after_push lane) (store p s.0 s.1 ∷ done)
pushed_at cells p lane done es phase.Open s at last stage is =
    absurd (let e : None ≡ Some s = sym (ap (stage_push_store (next_link p lane)) stage) ∙ is in cc)
pushed_at cells p lane done es (phase.Offered e) s at last stage is =
    let some : Some (Item e.cell, e.value) ≡ Some s = sym (ap (stage_push_store (next_link p lane)) stage) ∙ is in
    let pair : (Item e.cell, e.value) ≡ s = cc in
    subst (λ z. IsLaneAfter cells p (lane_after_push lane) (store p z.0 z.1 ∷ done)) pair
    (record {
      entries = es;
      phase = phase.Stored e;
      at = goes_on cells p es es (phase.Offered e) (phase.Stored e) (store p (Item e.cell) e.value) done
          (fills_cell es e) at;
      last = ap (last_after_push lane.last) stage ∙ last;
      stage = ap stage_after_push stage;
    })
pushed_at cells p lane done es (phase.Stored e) s at last stage is =
    let some : Some (next_link p lane, e.cell + 1) ≡ Some s =
    sym (ap (stage_push_store (next_link p lane)) stage) ∙ is in
    let link : next_link p lane ≡ place_after p es = next_place p lane es last in
    let put_at_place : (place_after p es, e.cell + 1) ≡ s = ap (λ w. (w, e.cell + 1)) (sym link) ∙ cc in
    subst (λ z. IsLaneAfter cells p (lane_after_push lane) (store p z.0 z.1 ∷ done)) put_at_place
    (record {
      entries = e ∷ es;
      phase = phase.Open;
      at = goes_on cells p es (e ∷ es) (phase.Stored e) phase.Open (store p (place_after p es) (e.cell + 1)) done
          (links_cell es e) at;
      last = ap (last_after_push lane.last) stage;
      stage = ap stage_after_push stage;
    })
pushed_at cells p lane done es (phase.Full e) s at last stage is =
    absurd (let n : None ≡ Some s = sym (ap (stage_push_store (next_link p lane)) stage) ∙ is in cc)
pushed_at cells p lane done es (phase.Ended None) s at last stage is =
    absurd (let n : None ≡ Some s = sym (ap (stage_push_store (next_link p lane)) stage) ∙ is in cc)
pushed_at cells p lane done es (phase.Ended (Some e)) s at last stage is =
    absurd (let n : None ≡ Some s = sym (ap (stage_push_store (next_link p lane)) stage) ∙ is in cc)

-- after the store of a push the producer stands where `lane_after_push` says
pub pushed_lane : (cells p : ℕ) (lane : Lane) (done : History) (s : Word × ℕ) → IsLaneAfter cells p lane done
    → push_store p lane ≡ Some s → IsLaneAfter cells p (lane_after_push lane) (store p s.0 s.1 ∷ done)
pushed_lane cells p lane done s x is = pushed_at cells p lane done x.entries x.phase s x.at x.last x.stage is

-- after the store of the end mark the producer stands where `lane_after_finish` says, whatever its phase was
finished_at : (cells p : ℕ) (lane : Lane) (done : History) (es : List Entry) (phase : Phase)
    → LaneIsAt cells p es phase done → lane.last ≡ last_of es → lane.stage ≡ stage_of phase
    → finish_refusal lane ≡ None → IsLaneAfter cells p (lane_after_finish lane) (store p (place_after p es) END ∷ done)
finished_at cells p lane done es phase.Open at last by_stage is = record {
  entries = es;
  phase = phase.Ended None;
  at = goes_on cells p es es phase.Open (phase.Ended None) (store p (place_after p es) END) done (ends_lane es) at;
  last = last;
  stage = ap (λ z. stage.Ended (is_full z)) by_stage;
}
finished_at cells p lane done es (phase.Offered e) at last by_stage is =
    absurd (let n = sym (ap stage_finish_refusal by_stage) ∙ is in cc)
finished_at cells p lane done es (phase.Stored e) at last by_stage is =
    absurd (let n = sym (ap stage_finish_refusal by_stage) ∙ is in cc)
finished_at cells p lane done es (phase.Full e) at last by_stage is = record {
  entries = es;
  phase = phase.Ended (Some e);
  at = goes_on cells p es es (phase.Full e) (phase.Ended (Some e)) (store p (place_after p es) END) done
      (ends_refused es e) at;
  last = last;
  stage = ap (λ z. stage.Ended (is_full z)) by_stage;
}
finished_at cells p lane done es (phase.Ended None) at last by_stage is =
    absurd (let n = sym (ap stage_finish_refusal by_stage) ∙ is in cc)
finished_at cells p lane done es (phase.Ended (Some e)) at last by_stage is =
    absurd (let n = sym (ap stage_finish_refusal by_stage) ∙ is in cc)

-- after the store of the end mark the producer stands where `lane_after_finish` says
pub finished_lane : (cells p : ℕ) (lane : Lane) (done : History) → IsLaneAfter cells p lane done
    → finish_refusal lane ≡ None
    → IsLaneAfter cells p (lane_after_finish lane) (store p (next_link p lane) END ∷ done)
finished_lane cells p lane done x going =
    subst (λ w. IsLaneAfter cells p (lane_after_finish lane) (store p w END ∷ done))
    (sym (next_place p lane x.entries x.last))
    (finished_at cells p lane done x.entries x.phase x.at x.last x.stage going)
