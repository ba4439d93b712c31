-- A poll of a lane loads the head of no other lane.
use Rattle.std.proofs.Common.{◌≡◌, ◌⊎◌, ⊎_elim, ℕ, ◌+◌, ◌<◌, ◌≤◌, List, [], ◌∷◌, ◌++◌, Option, Some, None, inl, inr, length, sym, ap, ◌∙◌, subst, arith}
use Rattle.mb_mailbox.specs.Imports.{Claims, Has, Head, History, Item, Parts, PoolAccess, ReaderSeatView, Stream, ToCells, ToClaims, Word, WorldAccess}
use Rattle.mb_mailbox.specs.Imports.{WorldHistory, cells_met, place_past, pool_accesses}
use Rattle.mb_mailbox.specs.ConsumerStep.{ConsumerStep, competes, looks, takes}
use Rattle.mb_mailbox.specs.Consumers.{ConsumerView}
use Rattle.mb_mailbox.specs.Jobs.{IsOnLanes, accesses_made}
use Rattle.mb_mailbox.specs.Steps.{IsPollOf, LeadTo, outcome}
use Rattle.mb_mailbox.specs.declared.consumer.Poll.{Poll}

-- the word of an access to the cells
abbrev pub word_in : WorldAccess → Option Word
word_in (ToCells a) = Some a.word
word_in (ToClaims a) = None

-- if the word past some cells of lane p is the head of a lane, it is the head of lane p
past_head : (p q : ℕ) (ks : List ℕ) → place_past p ks ≡ Head q → q ≡ p
past_head p q [] e = cc
past_head p q (k ∷ ks) e = absurd (cc)

-- a step on lane p loads no other lane's head
step_on : (cs : Claims) (c p : ℕ) (x : Parts) (b : PoolAccess) (answer : Option Poll) (q : ℕ)
    → ConsumerStep cs c p x (ToCells b) answer
    → b.word ≡ Head q → q ≡ p
step_on cs c p x b answer q (looks v past e told) w =
    let same : Some b.word ≡ Some (place_past p (cells_met p x.reads)) = ap word_in e in
    let word : b.word ≡ place_past p (cells_met p x.reads) = cc in
    past_head p q (cells_met p x.reads) (sym word ∙ w)
step_on cs c p x b answer q (competes k t now last going after e told) w = let same : Some b.word
    ≡ None = ap word_in e in absurd (cc)
step_on cs c p x b answer q (takes k v last won e told) w =
    let same : Some b.word ≡ Some (Item k) = ap word_in e in
    let word : b.word ≡ Item k = cc in
    let no : Item k ≡ Head q = sym word ∙ w in
    absurd (cc)

-- steps on lane p load no other lane's head
on_lane : (p : ℕ) (answer : Option Poll) (done : WorldHistory) (s : ConsumerView) (a : PoolAccess)
    (q : ℕ) → LeadTo p answer done s
    → Has (pool_accesses done) a → a.word ≡ Head q → q ≡ p
on_lane p answer [] s a q lead has w = absurd has
on_lane p answer (ToCells b ∷ older) s a q lead (inl is) w = step_on _ _ p _ b answer q lead.0
    (ap (λ (y : PoolAccess). y.word) is ∙ w)
on_lane p answer (ToCells b ∷ older) s a q lead (inr has) w = on_lane p None older s a q lead.1 has w
on_lane p answer (ToClaims b ∷ older) s a q lead has w = on_lane p None older s a q lead.1 has w

-- an access of two histories joined is in one of them
had : (xs ys : History) (a : PoolAccess) → Has (xs ++ ys) a → Has xs a ⊎ Has ys a
had [] ys a h = inr h
had (x ∷ xs) ys a (inl is) = inl (inl is)
had (x ∷ xs) ys a (inr h) = ⊎_elim (λ (t : Has xs a). inl (inr t)) (λ (t : Has ys a). inr t) (had xs ys a h)

-- if a consumer has loaded no head but of these lanes, this still holds after a poll of one of these lanes
pub only_by : (p budget : ℕ) (answer : Poll) (s t : Stream) (old new : ConsumerView)
    → IsPollOf p budget answer s t old new
    → (from end : ℕ) → from ≤ p → p < end → IsOnLanes from end old.reader.part → IsOnLanes from end new.reader.part
only_by p budget answer s t old new i from end low high was a q has w =
    let there : Has (pool_accesses i.accesses ++ old.reader.part) a =
    subst (λ (r : ReaderSeatView). Has r.part a) i.done.reader has in
    ⊎_elim
    (λ (t : Has (pool_accesses i.accesses) a).
    let same = on_lane p (outcome answer) i.accesses old a q i.lead t w
    in (omega (arith, same, low), omega (arith, same, high)))
    (λ (t : Has old.reader.part a). was a q t w)
    (had (pool_accesses i.accesses) old.reader.part a there)

-- if a history's length and n add up to 0, it has no access
no_access : (h : History) (n : ℕ) (a : PoolAccess) → length h + n ≡ 0 → Has h a → ⊥
no_access [] n a e has = has
no_access (x ∷ h) n a e has = omega (arith, e)

-- a consumer that has made no access has loaded no head
pub none_on : (from end : ℕ) (s : ConsumerView) → accesses_made s ≡ 0 → IsOnLanes from end s.reader.part
none_on from end s none a p has w = absurd (no_access s.reader.part (length s.seat.part) a none has)
