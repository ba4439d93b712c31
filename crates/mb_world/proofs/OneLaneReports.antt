-- What must hold of a small report of one lane so that it agrees with an assignment.
use Rattle.std.proofs.Common.{◌≡◌, ◌⊎◌, ◌↔◌, ℕ, zero, suc, ◌<◌, ◌≤◌, true, false, List, [], length, Option, Some, None, refl, sym, ◌∙◌, ap, inl, inr, arith}
use Rattle.std.specs.Option.{option_map_or}
use Rattle.std.specs.List.{filter_map}
use Rattle.std.proofs.lemmas.Bool.{cases_lt, false≢true, ne_eqb}
use Rattle.mb_world.specs.declared.report.Note.TheVariants.{Took, Lost}
use Rattle.mb_world.specs.Theorem.{Assignment, DiaryView, HasCompeted, HasLostTo, HasTaken, IsLossTo, ReportView, diary, is_begun, is_consumer, item_taken, items_left, items_put, ledger, notes, rest}
use Rattle.mb_world.specs.Theorem.{share}
use Rattle.mb_world.specs.Agreement.{AgreesWith}
use Rattle.mb_world.specs.ReportSamples.{report_of}
use Rattle.mb_world.proofs.Lists.{items_where-none}
use Rattle.mb_world.proofs.ReportLists.{no_diary, no_lane, not_noted}

module _ (t : Assignment) (xs ys : List ℕ) (ds : List DiaryView) where
  -- the report of one lane with these items put and left, and these diaries
  abbrev r : ReportView
  r = report_of xs ys ds

  -- what must hold of the one lane, and of the consumers with a diary, so that the report agrees with t
  pub record AgreesOnLane : Type 0 where
    pub elsewhere : (p j : ℕ) → t (suc p) j ≡ None
    pub known : (c j : ℕ) → t 0 j ≡ Some c → c < length ds
    pub taken : (c j : ℕ) → c < length ds → HasTaken c 0 j r ↔ (t 0 j ≡ Some c)
    pub ledgers : (c : ℕ) → c < length ds → ledger c 0 r ≡ share t c 0 r
    pub competitors : (c j : ℕ) → c < length ds → t 0 j ≡ Some c → (j < length xs) × HasCompeted c 0 j r
    pub losses : (c w j : ℕ) → c < length ds → HasLostTo c w 0 j r → IsLossTo t c w 0 j r
    pub within : (c : ℕ) → c < length ds → length (notes c 0 r) ≤ length xs
    pub begun_within : (c : ℕ) → c < length ds → is_begun c 0 r ≡ true → length (notes c 0 r) < length xs
    pub left : ys ≡ rest t 0 r

  module _ (y : AgreesOnLane) where
    -- consumer c has no diary on lane p, and is given nothing there
    abbrev IsOutside : ℕ → ℕ → Type 0
    IsOutside c p = (diary c p r ≡ None) × ((j : ℕ) → t p j ≡ Some c → ⊥)

    -- either p is lane 0 and consumer c has a diary there, or c has no diary on lane p and is given nothing there
    inside_or_not : (c p : ℕ) → ((p ≡ 0) × (c < length ds)) ⊎ IsOutside c p
    inside_or_not c zero = elim (cases_lt c (length ds)) [
      | inl here ↦ inl (refl, here)
      | inr past ↦ inr (no_diary c xs ys ds past, (λ j e. omega (arith, past, y.known c j e)))
    ]
    inside_or_not c (suc p) =
        inr (no_lane c p xs ys ds, (λ j e. let f = y.elsewhere p j in let g : None ≡ Some c = sym f ∙ e in cc))

    -- a consumer without a diary on a lane has no notes there
    no_notes : (c p : ℕ) → diary c p r ≡ None → notes c p r ≡ []
    no_notes c p none = ap (λ (o : Option DiaryView). option_map_or (λ d. d.notes) o []) none

    -- an item is taken exactly by the consumer to which it is given. This proof and some below go by `inside_or_not`
    taken : (c p j : ℕ) → HasTaken c p j r ↔ (t p j ≡ Some c)
    taken c p j = by p (inside_or_not c p)
      where
        by : (q : ℕ) → ((q ≡ 0) × (c < length ds)) ⊎ IsOutside c q → HasTaken c q j r ↔ (t q j ≡ Some c)
        by zero (inl here) = y.taken c j here.1
        by (suc q) (inl here) = absurd (let e = here.0 in cc)
        by q (inr out) = ((λ h. absurd (not_noted c q j r (Took h.0) out.0 h.1)), (λ e. absurd (out.1 j e)))

    -- an item that is not given to consumer c fails the test for the share of c
    not_given : (o : Option ℕ) (c : ℕ) → (o ≡ Some c → ⊥) → is_consumer c o ≡ false
    not_given None c none = refl
    not_given (Some d) c none = ne_eqb d c (λ e. none (ap Some e))

    -- each ledger is the share of its consumer
    ledgers : (c p : ℕ) → ledger c p r ≡ share t c p r
    ledgers c p = by p (inside_or_not c p)
      where
        by : (q : ℕ) → ((q ≡ 0) × (c < length ds)) ⊎ IsOutside c q → ledger c q r ≡ share t c q r
        by zero (inl here) = y.ledgers c here.1
        by (suc q) (inl here) = absurd (let e = here.0 in cc)
        by zero (inr out) =
            ap (filter_map item_taken) (no_notes c 0 out.0)
            ∙ sym (items_where-none (λ j. is_consumer c (t 0 j)) xs (λ j. not_given (t 0 j) c (out.1 j)))
        by (suc q) (inr out) = ap (filter_map item_taken) (no_notes c (suc q) out.0)

    -- only items that were put are given, and only to consumers that competed for them
    competitors : (c p j : ℕ) → t p j ≡ Some c → (j < length (items_put p r)) × HasCompeted c p j r
    competitors c p j e = by p (inside_or_not c p) e
      where
        by : (q : ℕ) → ((q ≡ 0) × (c < length ds)) ⊎ IsOutside c q → t q j ≡ Some c
            → (j < length (items_put q r)) × HasCompeted c q j r
        by zero (inl here) f = y.competitors c j here.1 f
        by (suc q) (inl here) f = absurd (let e = here.0 in cc)
        by q (inr out) f = absurd (out.1 j f)

    -- `IsLossTo` holds of each loss
    losses : (c w p j : ℕ) → HasLostTo c w p j r → IsLossTo t c w p j r
    losses c w p j h = by p (inside_or_not c p) h
      where
        by : (q : ℕ) → ((q ≡ 0) × (c < length ds)) ⊎ IsOutside c q → HasLostTo c w q j r → IsLossTo t c w q j r
        by zero (inl here) l = y.losses c w j here.1 l
        by (suc q) (inl here) l = absurd (let e = here.0 in cc)
        by q (inr out) l = absurd (not_noted c q j r (Lost w) out.0 l)

    -- there are no more notes than items
    within : (c p : ℕ) → length (notes c p r) ≤ length (items_put p r)
    within c p = by p (inside_or_not c p)
      where
        by : (q : ℕ) → ((q ≡ 0) × (c < length ds)) ⊎ IsOutside c q → length (notes c q r) ≤ length (items_put q r)
        by zero (inl here) = y.within c here.1
        by (suc q) (inl here) = absurd (let e = here.0 in cc)
        by q (inr out) = rw (no_notes c q out.0) (omega arith)

    -- a begun claim is on an item
    begun_within : (c p : ℕ) → is_begun c p r ≡ true → length (notes c p r) < length (items_put p r)
    begun_within c p b = by p (inside_or_not c p) b
      where
        by : (q : ℕ) → ((q ≡ 0) × (c < length ds)) ⊎ IsOutside c q → is_begun c q r ≡ true
            → length (notes c q r) < length (items_put q r)
        by zero (inl here) e = y.begun_within c here.1 e
        by (suc q) (inl here) e = absurd (let f = here.0 in cc)
        by q (inr out) e =
            absurd (false≢true (sym (ap (λ (o : Option DiaryView). option_map_or (λ d. d.begun) o false) out.0) ∙ e))

    -- the items left are those given to nobody
    left : (p : ℕ) → items_left p r ≡ rest t p r
    left zero = y.left
    left (suc p) = refl

    -- the report agrees with the assignment t
    pub agrees_on_lane : AgreesWith t r
    agrees_on_lane = record {
      given = record {
        taken = taken;
        ledgers = ledgers;
        competitors = competitors;
        losses = losses;
        within = within;
        begun_within = begun_within;
      };
      left = left;
    }
