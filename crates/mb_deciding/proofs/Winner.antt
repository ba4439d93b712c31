-- What holds of every lawful history of one ratifier.
use Rattle.std.proofs.Common.{◌≡◌, ◌≢◌, ℕ, ◌+◌, ◌<◌, Bool, true, false, List, [], ◌∷◌, inl, inr, sym, refl, ◌∙◌, subst}
use Rattle.std.proofs.Common.{arith}
use Rattle.mb_deciding.specs.{Proposal, Quorum, Load, Store, Access, Ratifier, Object, ObjectIsSound, object_of, ratifier_of}
use Rattle.mb_deciding.specs.{value_in, part, acts, Has, IsObjectLawful, HasOutput, IsAnnounced, IsValid, IsCoherent}
use Rattle.mb_deciding.specs.{IsAccepted, IsContested, IsRatifying, ChecksKeepOut}
use Rattle.mb_quorum.specs.Quorum.{QuorumTable, IsQuorumTable, IsMember}
use Rattle.mb_deciding.proofs.Histories.{lawful_older}
use Rattle.mb_deciding.proofs.Acts.{has_turns, has_later}
use Rattle.mb_deciding.proofs.Registers.{member_below, some_member}
use Rattle.mb_deciding.proofs.Grammar.{HasPreference, clear_loads, one_chosen, path_chosen}
use Rattle.mb_deciding.proofs.RatifierWords.{IsFounded, has_cases, own_behind, newest_load, stored_one}
use Rattle.mb_deciding.proofs.RatifierWords.{preference_filled, loaded_stored, chosen_founded, founded_within}

-- ---- what a load of 0 from a register rules out
-- a process that loaded an empty proposal has stored 1 in each register of its input's write quorum
empty_announced :
    (t : QuorumTable) (inputs : ℕ → ℕ) (h : List Access) → IsQuorumTable t → IsObjectLawful (ratifier_of t inputs) h
    → (b r : ℕ) → Has (acts (part b h)) (Load Proposal 0) → IsMember (t.write (inputs b)) r
    → Has (acts (part b h)) (Store (Quorum r) 1)
empty_announced t inputs h q l b r k m =
    let at = own_behind t inputs h l b (Load Proposal 0) k in
    let within : inputs b < t.values = (l.parts b (has_turns (part b h) (Load Proposal 0) k)).0 in
    at.2 (Store (Quorum r) 1)
    (at.1 r (member_below t.registers (t.write (inputs b)) r (q.write_within (inputs b) within) m) m)

-- a process that loaded a quorum register has a preference
loads_preference :
    (t : QuorumTable) (inputs : ℕ → ℕ) (h : List Access) → IsObjectLawful (ratifier_of t inputs) h → (p r x : ℕ)
    → Has (acts (part p h)) (Load (Quorum r) x) → HasPreference (inputs p) (acts (part p h))
loads_preference t inputs h l p r x k =
    let at = own_behind t inputs h l p (Load (Quorum r) x) k in
    elim at.1 [
      | inl w ↦ inl (at.2 (Store Proposal (inputs p + 1)) w)
      | inr w ↦ inr (w.0, at.2 (Load Proposal (w.0 + 1)) w.1)
    ]

-- if a process loaded 0 from a register, no process that loaded an empty proposal has that register in its write quorum
clear_register :
    (t : QuorumTable) (inputs : ℕ → ℕ) (h : List Access) → IsQuorumTable t → IsObjectLawful (ratifier_of t inputs) h
    → (p b r : ℕ) → Has (acts (part p h)) (Load (Quorum r) 0) → Has (acts (part b h)) (Load Proposal 0)
    → IsMember (t.write (inputs b)) r → ⊥
clear_register t inputs [] q l p b r k f m = k
clear_register t inputs (a ∷ h) q l p b r k f m =
    let older = lawful_older (ratifier_of t inputs) a h l in
    elim (has_cases p a h (Load (Quorum r) 0) k) [
      | inl w ↦ (elim (has_cases b a h (Load Proposal 0) f) [
        | inl z ↦ (let e : Load (Quorum r) 0 ≡ Load Proposal 0 = w.1 ∙ sym z.1 in cc)
        | inr z ↦ (let one : value_in (Quorum r) h ≡ 1 = stored_one t inputs h older b r
            (empty_announced t inputs h q older b r z m) in
            let none : 0 ≡ value_in (Quorum r) h = newest_load t inputs a h (Quorum r) 0 l w.1 in omega arith)
      ])
      | inr w ↦ (elim (has_cases b a h (Load Proposal 0) f) [
        | inl z ↦ (let filled : 0 < value_in Proposal h = preference_filled t inputs h older p (inputs p)
            (loads_preference t inputs h older p r 0 w) in
            let none : 0 ≡ value_in Proposal h = newest_load t inputs a h Proposal 0 l z.1 in omega arith)
        | inr z ↦ clear_register t inputs h q older p b r w z m
      ])
    ]

-- so `ChecksKeepOut` holds of every lawful history of a ratifier
keeps_out :
    (t : QuorumTable) (inputs : ℕ → ℕ) (h : List Access) → IsQuorumTable t → IsObjectLawful (ratifier_of t inputs) h
    → ChecksKeepOut (ratifier_of t inputs) h
keeps_out t inputs h q l p u bound b r later made is clear empty other below in_read in_write =
    let loaded : Has (acts (part p h)) (Load (Quorum r) 0) =
    subst (λ xs. Has xs (Load (Quorum r) 0)) (sym is)
    (has_later later made (Load (Quorum r) 0) (clear_loads t (inputs p) u bound made clear r below in_read)) in
    clear_register t inputs h q l p b r loaded empty in_write

-- ---- the promises of a ratifier
-- the value of an output has a founder
output_founded :
    (t : QuorumTable) (inputs : ℕ → ℕ) (h : List Access) → IsObjectLawful (ratifier_of t inputs) h
    → (p : ℕ) (d : Bool) (u : ℕ) → HasOutput (ratifier_of t inputs) p d u h → IsFounded inputs h u
output_founded t inputs h l p d u o =
    chosen_founded t inputs h l p u (path_chosen t (inputs p) (acts (part p h)) d u o)

-- each output is the input of a process with an access
pub valid :
    (t : QuorumTable) (inputs : ℕ → ℕ) (h : List Access) → IsObjectLawful (ratifier_of t inputs) h
    → IsValid (ratifier_of t inputs) h
valid t inputs h l p d u o =
    let f = output_founded t inputs h l p d u o in
    (f.0, has_turns (part f.0 h) (Load Proposal 0) f.2, f.1)

-- if one output is decided, every output has the same value
pub coherent :
    (t : QuorumTable) → IsQuorumTable t → (inputs : ℕ → ℕ) (h : List Access) → IsObjectLawful (ratifier_of t inputs) h
    → IsCoherent (ratifier_of t inputs) h
coherent t q inputs h l p k d u w o other =
    let f = output_founded t inputs h l k d w other in
    let u_within = founded_within t inputs h l u (output_founded t inputs h l p true u o) in
    (q.disjoint w u (founded_within t inputs h l w f) u_within).0
    (λ r in_write in_read.
    clear_register t inputs h q l p f.0 r
    (clear_loads t (inputs p) u t.registers (acts (part p h)) o r
    (member_below t.registers (t.read u) r (q.read_within u u_within) in_read) in_read)
    f.2
    (subst (λ v. IsMember (t.write v) r) (sym f.1) in_write))

-- if an output is undecided, another value than its own was announced
other_announced :
    (t : QuorumTable) (inputs : ℕ → ℕ) (h : List Access) → IsQuorumTable t → IsObjectLawful (ratifier_of t inputs) h
    → (p u : ℕ) → HasOutput (ratifier_of t inputs) p false u h → (w : ℕ) × (w ≢ u) × IsAnnounced
    (ratifier_of t inputs) w h
other_announced t inputs h q l p u o =
    let one = (one_chosen t (inputs p) u (acts (part p h)) o).1 in
    let b = loaded_stored t inputs h l p one.0 one.2 in
    let at = own_behind t inputs h l b.0 (Store (Quorum one.0) 1) b.1 in
    let u_within = founded_within t inputs h l u (output_founded t inputs h l p false u o) in
    let b_within = (l.parts b.0 (has_turns (part b.0 h) (Store (Quorum one.0) 1) b.1)).0 in (
      inputs b.0,
      (λ e. (q.disjoint (inputs b.0) u b_within u_within).1 e one.0 at.1.1 one.1),
      (b.0, one.0, refl, at.1.1, b.1),
    )

-- if an output is undecided, and another value than its own was announced, its own was announced, too
own_announced :
    (t : QuorumTable) (inputs : ℕ → ℕ) (h : List Access) → IsQuorumTable t → IsObjectLawful (ratifier_of t inputs) h
    → (p u : ℕ) → HasOutput (ratifier_of t inputs) p false u h → (w : ℕ) × (w ≢ u) × IsAnnounced
    (ratifier_of t inputs) w h
    → IsAnnounced (ratifier_of t inputs) u h
own_announced t inputs h q l p u o other =
    let f = output_founded t inputs h l p false u o in
    let u_within = founded_within t inputs h l u f in
    let a = other.2 in
    let w_within : other.0 < t.values =
    subst (λ n. n < t.values) a.2 (l.parts a.0 (has_turns (part a.0 h) (Store (Quorum a.1) 1) a.4)).0 in
    elim (some_member (t.write u)) [
      | inl x ↦ (
        f.0,
        x.0,
        f.1,
        x.1,
        empty_announced t inputs h q l f.0 x.0 f.2
            (subst (λ v. IsMember (t.write v) x.0) (sym f.1) x.1),
      )
      | inr none ↦ absurd (other.1 (sym ((q.disjoint u other.0 u_within w_within).0
          (λ r in_write in_read. none r in_write))))
    ]

-- if an output is undecided, its value and another one were announced
contested :
    (t : QuorumTable) → IsQuorumTable t → (inputs : ℕ → ℕ) (h : List Access) → IsObjectLawful (ratifier_of t inputs) h
    → IsContested (ratifier_of t inputs) h
contested t q inputs h l p u o =
    let other = other_announced t inputs h q l p u o in
    (own_announced t inputs h q l p u o other, other)

-- if all processes with an access have the input v, every output is (1, v)
accepted :
    (t : QuorumTable) → IsQuorumTable t → (inputs : ℕ → ℕ) (h : List Access) → IsObjectLawful (ratifier_of t inputs) h
    → IsAccepted (ratifier_of t inputs) h
accepted t q inputs h l v all p d u o =
    let from = valid t inputs h l p d u o in
    let same : u ≡ v = sym from.2 ∙ all from.0 from.1 in
    (decided d u o same, same)
  where
    -- an output with the value v, which is the input of all processes with an access, is decided
    decided : (d : Bool) (u : ℕ) → HasOutput (ratifier_of t inputs) p d u h → u ≡ v → d ≡ true
    decided true u o same = refl
    decided false u o same =
        let n = other_announced t inputs h q l p u o in
        let a = n.2 in
        absurd (n.1 (sym a.2 ∙ (all a.0 (has_turns (part a.0 h) (Store (Quorum a.1) 1) a.4) ∙ sym same)))

-- a ratifier whose table keeps the law keeps the promises of ratifiers (`IsRatifying`)
pub ratifies : (o : Object) → ObjectIsSound o → o.kind ≡ Ratifier → IsRatifying o
ratifies o q is =
    subst (λ kind. IsRatifying (object_of o.table kind o.inputs)) (sym is)
    (record { acceptance = accepted o.table q o.inputs; contested = contested o.table q o.inputs })

-- if an object is a ratifier, `ChecksKeepOut` holds of each of its lawful histories
pub ratifier_keeps_out :
    (o : Object) (h : List Access) → ObjectIsSound o → o.kind ≡ Ratifier → IsObjectLawful o h → ChecksKeepOut o h
ratifier_keeps_out o h q is =
    subst (λ kind. IsObjectLawful (object_of o.table kind o.inputs) h → ChecksKeepOut
    (object_of o.table kind o.inputs) h) (sym is)
    (keeps_out o.table o.inputs h q)
