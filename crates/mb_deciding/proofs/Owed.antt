-- An object of each kind keeps its promises: each input has a path, which ends once, and a process has few turns.
use Rattle.std.proofs.Common.{◌≡◌, ◌≢◌, ℕ, ◌+◌, ◌<◌, ◌≤◌, Bool, true, false, List, [], ◌∷◌, ◌++◌, length, inl, inr, sym}
use Rattle.std.proofs.Common.{refl, ap, ap₂, ◌∙◌, subst, append-nil, length-append, true≢false, arith}
use Rattle.mb_deciding.specs.{Value, Proposal, Act, Load, Store, Turn, Access, Out, Kind, Conciliator, Ratifier, LastObject, Object}
use Rattle.mb_deciding.specs.{ObjectIsSound, object_of, ratifier_of, conciliator_of, last_of, acts, part, zeros_below, announcement}
use Rattle.mb_deciding.specs.{IsRatifierPath, answer, IsPath, IsPrefix, IsOpen, IsObjectLawful, most_turns, IsDeciding}
use Rattle.mb_quorum.specs.Quorum.{QuorumTable, IsQuorumTable}
use Rattle.mb_deciding.proofs.Histories.{not_empty, nil_or}
use Rattle.mb_deciding.proofs.Acts.{acts-append, length-acts, no_acts, turns_for, acts-turns_for, has_some}
use Rattle.mb_deciding.proofs.Grammar.{path_chosen}
use Rattle.mb_deciding.proofs.Outputs.{same_output}
use Rattle.mb_deciding.proofs.RatifierWords.{fits, chosen_founded, founded_within}
use Rattle.mb_deciding.proofs.Winner.{valid, coherent}
use Rattle.mb_deciding.proofs.Lengths.{path_ends, part_length}
use Rattle.mb_deciding.proofs.Lasts.{unique_last, last_turns, opens_last, last_fits, last_valid, last_coherent}
use Rattle.mb_deciding.proofs.Sizes.{largest_bound}
use Rattle.mb_deciding.proofs.ConciliatorPaths.{path_ends as conciliator_ends, path_length as conciliator_length}
use Rattle.mb_deciding.proofs.Conciliators.{valid as conciliator_valid, fits as conciliator_fits}

-- two outputs are equal if both are decided or neither is, and their values are equal
same_answer : (a b : Out) → (a.decided ≡ b.decided) × (a.value ≡ b.value) → a ≡ b
same_answer a b e = ap₂ answer e.0 e.1

-- ---- the paths of a ratifier
-- a whole path has an act
some_path : (t : QuorumTable) (v : ℕ) (made : List Act) (d : Bool) (u : ℕ) → IsRatifierPath t v made d u → made ≢ []
some_path t v made d u h =
    elim (path_chosen t v made d u h) [
      | inl k ↦ has_some made (Load Proposal 0) k.1
      | inr k ↦ has_some made (Load Proposal (u + 1)) k
    ]

-- the acts of a process with input v that is the only one to use a ratifier
lone_path : QuorumTable → ℕ → List Act
lone_path t v = zeros_below t.registers (t.read v) ++ (Store Proposal (v + 1) ∷ Load Proposal 0 ∷ announcement t v)

-- the acts of `lone_path` are a whole path with the decided output v
lone_path_decides : (t : QuorumTable) (v : ℕ) → IsRatifierPath t v (lone_path t v) true v
unfolding lone_path
lone_path_decides t v = (Store Proposal (v + 1) ∷ Load Proposal 0 ∷ announcement t v, inl (refl, refl), refl)

-- each input has a path through a ratifier
opens_ratifier : (t : QuorumTable) (v : ℕ) → IsOpen t Ratifier v []
opens_ratifier t v =
    let is : acts (turns_for (lone_path t v)) ≡ lone_path t v = acts-turns_for (lone_path t v) in (
      turns_for (lone_path t v),
      (λ e. some_path t v (lone_path t v) true v (lone_path_decides t v) (sym is ∙ ap acts e)),
      (
        answer true v,
        subst (λ xs. IsRatifierPath t v xs true v)
            (sym (ap acts (append-nil (turns_for (lone_path t v))) ∙ is)) (lone_path_decides t v),
      ),
    )

-- if a whole path through a ratifier and later turns are again one, there are no later turns, and the outputs are equal
unique_ratifier :
    (t : QuorumTable) (v : ℕ) (turns later : List Turn) (a b : Out) → IsPath t Ratifier v turns a
    → IsPath t Ratifier v (later ++ turns) b → (later ≡ []) × (a ≡ b)
unique_ratifier t v turns later a b h k =
    let whole : IsRatifierPath t v (acts later ++ acts turns) b.decided b.value =
    subst (λ xs. IsRatifierPath t v xs b.decided b.value) (acts-append later turns) k in
    let none : acts later ≡ [] =
    path_ends t v (acts turns) (acts later) a.decided b.decided a.value b.value h whole in (
      no_acts later none,
      same_answer a b (same_output t v (acts turns) a.decided b.decided a.value b.value h
          (subst (λ xs. IsRatifierPath t v (xs ++ acts turns) b.decided b.value) none whole)),
    )

-- ---- the paths of a conciliator
-- each input has a path through a conciliator: its only load finds that input in the word
opens_conciliator : (t : QuorumTable) (s v : ℕ) → IsOpen t (Conciliator s) v []
opens_conciliator t s v =
    let x : Turn = record { act = Load Value (v + 1); word = 0 } in
    (x ∷ [], not_empty x [], (answer false v, (refl, (refl, (0, omega arith, inl tt)))))

-- if a path through a conciliator and later turns are again a path, there are no later turns, and the outputs are equal
unique_conciliator :
    (t : QuorumTable) (s v : ℕ) (turns later : List Turn) (a b : Out) → IsPath t (Conciliator s) v turns a
    → IsPath t (Conciliator s) v (later ++ turns) b → (later ≡ []) × (a ≡ b)
unique_conciliator t s v turns later a b h k =
    let e = conciliator_ends s v turns later a.value b.value h.1 k.1 in
    (e.0, same_answer a b (h.0 ∙ sym k.0, e.1))

-- ---- objects of each kind
-- if a path through an object and later turns are again a path, there are no later turns, and the outputs are equal
pub one_end :
    (t : QuorumTable) (kind : Kind) (v : ℕ) (turns later : List Turn) (a b : Out) → IsPath t kind v turns a
    → IsPath t kind v (later ++ turns) b → (later ≡ []) × (a ≡ b)
one_end t (Conciliator s) = unique_conciliator t s
one_end t Ratifier = unique_ratifier t
one_end t LastObject = unique_last t

-- a process with an input of the table has at most `most_turns` turns on a ratifier
ratifier_turns :
    (t : QuorumTable) (inputs : ℕ → ℕ) (h : List Access) (p : ℕ) → IsObjectLawful (ratifier_of t inputs) h
    → inputs p < t.values → IsPrefix t Ratifier (inputs p) (part p h)
    → length (part p h) ≤ most_turns t Ratifier
ratifier_turns t inputs h p l within prefix =
    let whole : IsRatifierPath t (inputs p) (acts prefix.0 ++ acts (part p h)) prefix.1.decided prefix.1.value =
    subst (λ xs. IsRatifierPath t (inputs p) xs prefix.1.decided prefix.1.value)
    (acts-append prefix.0 (part p h)) prefix.2 in
    let announces = largest_bound t.write t.values (inputs p) within in
    elim (part_length t (inputs p) (acts prefix.0) (acts (part p h)) prefix.1.decided prefix.1.value whole) [
      | inl short ↦ omega (arith, length-acts (part p h), announces)
      | inr long ↦ (let known = founded_within t inputs h l prefix.1.value
          (chosen_founded t inputs h l p prefix.1.value long.0) in
          omega (arith, length-acts (part p h), announces, long.1, largest_bound t.read t.values prefix.1.value known))
    ]

-- a process has at most `most_turns` turns on a conciliator
conciliator_turns :
    (t : QuorumTable) (s v : ℕ) (turns : List Turn) → IsPrefix t (Conciliator s) v turns
    → length turns ≤ most_turns t (Conciliator s)
conciliator_turns t s v turns prefix =
    omega (arith, length-append prefix.0 turns, conciliator_length s v (prefix.0 ++ turns) prefix.1.value prefix.2.1)

-- a process has at most `most_turns` turns on an object of any kind
pub bounded :
    (o : Object) (h : List Access) (p : ℕ) → IsObjectLawful o h
    → length (part p h) ≤ most_turns o.table o.kind
bounded o h p l =
    elim (nil_or (part p h)) [
      | inl none ↦ subst (λ xs. length xs ≤ most_turns o.table o.kind) (sym none) (omega arith)
      | inr some ↦ (let own = l.parts p some in by_kind o.kind l own.0 own.1)
    ]
  where
    -- by the kind of the object: a process with a turn has at most `most_turns` turns
    by_kind :
        (k : Kind) → IsObjectLawful (object_of o.table k o.inputs) h → o.inputs p < o.table.values → IsPrefix o.table k
        (o.inputs p) (part p h)
        → length (part p h) ≤ most_turns o.table k
    by_kind (Conciliator s) lawful within prefix = conciliator_turns o.table s (o.inputs p) (part p h) prefix
    by_kind Ratifier lawful within prefix = ratifier_turns o.table o.inputs h p lawful within prefix
    by_kind LastObject lawful within prefix = last_turns o.table (o.inputs p) (part p h) prefix

-- an object of any kind over a table that keeps the law of quorum tables keeps its promises
promises_kept_by : (t : QuorumTable) (kind : Kind) (inputs : ℕ → ℕ) → IsQuorumTable t → IsDeciding
    (object_of t kind inputs)
promises_kept_by t (Conciliator s) inputs law =
    record {
      opens = λ v below. opens_conciliator t s v;
      unique = unique_conciliator t s;
      bounded = bounded (conciliator_of t s inputs);
      fits = conciliator_fits t s inputs;
      validity = conciliator_valid t s inputs;
      coherence = λ h l p q d u w o other. absurd (true≢false o.0);
    }
promises_kept_by t Ratifier inputs law =
    record {
      opens = λ v below. opens_ratifier t v;
      unique = unique_ratifier t;
      bounded = bounded (ratifier_of t inputs);
      fits = fits t inputs;
      validity = valid t inputs;
      coherence = coherent t law inputs;
    }
promises_kept_by t LastObject inputs law =
    record {
      opens = λ v below. opens_last t v;
      unique = unique_last t;
      bounded = bounded (last_of t inputs);
      fits = last_fits t inputs;
      validity = last_valid t inputs;
      coherence = last_coherent t inputs;
    }

-- every object whose table keeps the law of quorum tables keeps its promises
pub promises_kept : (o : Object) → ObjectIsSound o → IsDeciding o
promises_kept o law = promises_kept_by o.table o.kind o.inputs law
