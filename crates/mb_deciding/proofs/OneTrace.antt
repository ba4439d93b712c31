-- On one object a schedule has at most one trace.
use Rattle.std.proofs.Common.{◌≡◌, ℕ, ◌<◌, Some, None, List, [], ◌∷◌, Option, length, sym, refl, ap, ap₂}
use Rattle.std.proofs.Common.{◌∙◌, subst}
use Rattle.std.specs.List.{slice_index_or}
use Rattle.std.proofs.lemmas.List.{ext_get_or}
use Rattle.mb_deciding.specs.{IsSameOp, Act, Turn, Access, Out, Kind, Conciliator, Ratifier, LastObject, Entry, Object, ObjectSetup}
use Rattle.mb_deciding.specs.{object_in, acts, part, IsRatifierPath, IsPrefix, IsObjectLawful, process_of, with_entry}
use Rattle.mb_deciding.specs.{history_from, history_of, HasEnded, IsOutputOf, IsEntryAfter, AreEntriesOf, IsTrace}
use Rattle.mb_quorum.specs.Quorum.{QuorumTable}
use Rattle.mb_deciding.specs.declared.trace.Entry.TheVariants as entry
use Rattle.mb_deciding.proofs.Acts.{acts-append}
use Rattle.mb_deciding.proofs.Histories.{lawful_older, own_turns, own_some}
use Rattle.mb_deciding.proofs.Lasts.{last_op}
use Rattle.mb_deciding.proofs.Owed.{one_end}
use Rattle.mb_deciding.proofs.SameOp.{same_act}
use Rattle.mb_deciding.proofs.RatifierNext.{Follows, act_follows, one_op}
use Rattle.mb_deciding.proofs.ConciliatorNext.{turn_follows, one_op as conciliator_op}

-- ---- the next act
-- the newest act of a prefix of a ratifier's path is one that may follow all acts before it
ratifier_follows :
    (t : QuorumTable) (v : ℕ) (turns : List Turn) (x : Turn) → IsPrefix t Ratifier v (x ∷ turns)
    → Follows t v x.act (acts turns)
ratifier_follows t v turns x p =
    act_follows t v (acts p.0) (acts turns) x.act p.1.decided p.1.value
    (subst (λ xs. IsRatifierPath t v xs p.1.decided p.1.value) (acts-append p.0 (x ∷ turns)) p.2)

-- if two prefixes of paths differ in their newest turn alone, these two turns are of one op
pub next_op :
    (t : QuorumTable) (kind : Kind) (v : ℕ) (turns : List Turn) (a b : Turn) → IsPrefix t kind v (a ∷ turns)
    → IsPrefix t kind v (b ∷ turns) → IsSameOp a.act b.act
next_op t Ratifier v turns a b p q =
    one_op t v (acts turns) a.act b.act (ratifier_follows t v turns a p) (ratifier_follows t v turns b q)
next_op t (Conciliator s) v turns a b p q =
    conciliator_op s v turns a.act b.act (turn_follows s v p.0 turns a p.1.value p.2.1)
    (turn_follows s v q.0 turns b q.1.value q.2.1)
next_op t LastObject v turns a b p q = last_op t v turns a b p q

-- the access of process p with this random word and act
abbrev access : ℕ → ℕ → Act → Access
access p word act = record { process = p; turn = record { act = act; word = word } }

-- after a lawful history the process of the newest access has a prefix of a path, with that access as its last turn
newest_part :
    (o : Object) (a : Access) (h : List Access)
    → IsObjectLawful o (a ∷ h) → IsPrefix o.table o.kind (o.inputs a.process) (a.turn ∷ part a.process h)
newest_part o a h l =
    subst (λ xs. IsPrefix o.table o.kind (o.inputs a.process) xs) (own_turns a h) (l.parts a.process (own_some a h)).1

-- if a history stays lawful with either of two acts of process p, these acts are equal
one_act :
    (o : Object) (word p : ℕ) (h : List Access) (a b : Act)
    → IsObjectLawful o (access p word a ∷ h) → IsObjectLawful o (access p word b ∷ h) → a ≡ b
one_act o word p h a b l m =
    let op =
    next_op o.table o.kind (o.inputs p) (part p h) (access p word a).turn (access p word b).turn
    (newest_part o (access p word a) h l)
    (newest_part o (access p word b) h m) in
    same_act a b h op l.memory.0 m.memory.0

-- ---- one entry
-- a process has at most one output
one_out :
    (o : Object) (h : List Access) (p : ℕ) (a b : Option Out)
    → IsOutputOf o p a h → IsOutputOf o p b h → a ≡ b
one_out o h p None None x y = refl
one_out o h p None (Some b) x y = absurd (x (b.decided, b.value, y))
one_out o h p (Some a) None x y = absurd (y (a.decided, a.value, x))
one_out o h p (Some a) (Some b) x y =
    ap Some (one_end o.table o.kind (o.inputs p) (part p h) [] a b x y).1

-- after one history, two entries with an access of process p, with the same random word, are equal
one_access :
    (o : Object) (word p : ℕ) (h : List Access) (a b : Act) (x y : Option Out)
    → IsObjectLawful o (access p word a ∷ h)
    → IsObjectLawful o (access p word b ∷ h) → IsOutputOf o p x (access p word a ∷ h)
    → IsOutputOf o p y (access p word b ∷ h) → entry.Access p a x ≡ entry.Access p b y
one_access o word p h a b x y l m out other =
    let same : a ≡ b = one_act o word p h a b l m in
    let found = subst (λ act. IsOutputOf o p y (access p word act ∷ h)) (sym same) other in
    ap₂ (λ act o. entry.Access p act o) same (one_out o (access p word a ∷ h) p x y out found)

-- after one history, two entries of one process for the same random word are equal
one_entry :
    (o : Object) (word : ℕ) (h : List Access) (e f : Entry)
    → IsObjectLawful o (with_entry word e h) → IsObjectLawful o (with_entry word f h)
    → IsEntryAfter o word e h → IsEntryAfter o word f h → process_of e ≡ process_of f → e ≡ f
one_entry o word h (entry.Done p) (entry.Done r) l m x y same = ap entry.Done same
one_entry o word h (entry.Done p) (entry.Access r b other) l m x y same =
    absurd (y.0 (subst (λ n. HasEnded o n h) same x))
one_entry o word h (entry.Access p a out) (entry.Done r) l m x y same =
    absurd (x.0 (subst (λ n. HasEnded o n h) (sym same) y))
one_entry o word h (entry.Access p a out) (entry.Access r b other) l m x y same =
    one_access o word p h a b out other l
    (subst (λ n. IsObjectLawful o (access n word b ∷ h)) (sym same) m)
    x.1
    (subst (λ n. IsOutputOf o n other (access n word b ∷ h)) (sym same) y.1)
    ∙ ap (λ n. entry.Access n b other) same

-- ---- one trace
-- if a history is lawful with the access of an entry, it was lawful before
entry_older :
    (o : Object) (word : ℕ) (e : Entry) (h : List Access)
    → IsObjectLawful o (with_entry word e h) → IsObjectLawful o h
entry_older o word (entry.Done p) h l = l
entry_older o word (entry.Access p a out) h l = lawful_older o (access p word a) h l

-- if a history is lawful with the accesses of a schedule, it was lawful before these
entries_older :
    (o : Object) (schedule : List (ℕ × ℕ)) (es : List Entry) (h : List Access)
    → IsObjectLawful o (history_from schedule es h) → IsObjectLawful o h
entries_older o [] es h l = l
entries_older o (turn ∷ schedule) [] h l = l
entries_older o (turn ∷ schedule) (e ∷ es) h l =
    entry_older o turn.1 e h (entries_older o schedule es (with_entry turn.1 e h) l)

-- after a history the turns of a schedule have at most one list of entries
one_list :
    (o : Object) (schedule : List (ℕ × ℕ)) (es fs : List Entry) (h : List Access)
    → IsObjectLawful o (history_from schedule es h)
    → IsObjectLawful o (history_from schedule fs h) → AreEntriesOf o schedule es h
    → AreEntriesOf o schedule fs h → es ≡ fs
one_list o [] [] [] h l m x y = refl
one_list o [] [] (f ∷ fs) h l m x y = absurd y
one_list o [] (e ∷ es) fs h l m x y = absurd x
one_list o (turn ∷ schedule) [] fs h l m x y = absurd x
one_list o (turn ∷ schedule) (e ∷ es) [] h l m x y = absurd y
one_list o (turn ∷ schedule) (e ∷ es) (f ∷ fs) h l m x y =
    let first : e ≡ f =
    one_entry o turn.1 h e f (entries_older o schedule es (with_entry turn.1 e h) l)
    (entries_older o schedule fs (with_entry turn.1 f h) m)
    x.1 y.1 (x.0 ∙ sym y.0) in
    let later =
    one_list o schedule es fs (with_entry turn.1 e h) l
    (subst (λ d. IsObjectLawful o (history_from schedule fs (with_entry turn.1 d h))) (sym first) m)
    x.2
    (subst (λ d. AreEntriesOf o schedule fs (with_entry turn.1 d h)) (sym first) y.2) in
    ap₂ (λ d ds. d ∷ ds) first later

-- two traces of one schedule have equal entries and equal outputs
pub one_trace :
    (u : ObjectSetup) (schedule : List (ℕ × ℕ)) (es fs : List Entry) (outs others : List (Option Out))
    → IsTrace u schedule es outs → IsTrace u schedule fs others → (es ≡ fs) × (outs ≡ others)
one_trace u schedule es fs outs others a b =
    let entries : es ≡ fs =
    one_list (object_in u) schedule es fs [] a.lawful b.lawful a.entries b.entries in
    let long : length outs ≡ length others = a.processes ∙ sym b.processes in
    (entries, ext_get_or None outs others long (λ p below. same entries p below (subst (λ n. p < n) long below)))
  where
    -- if the entries are equal, the outputs of process p are equal in both traces
    same :
        es ≡ fs → (p : ℕ) → p < length outs → p < length others
        → slice_index_or outs p None ≡ slice_index_or others p None
    same entries p below within =
        one_out (object_in u) (history_of schedule es) p (slice_index_or outs p None)
        (slice_index_or others p None) (a.outputs p None below)
        (subst (λ ds. IsOutputOf (object_in u) p (slice_index_or others p None) (history_of schedule ds))
        (sym entries) (b.outputs p None within))
