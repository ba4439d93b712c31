-- A history and a random word determine a consumer's next access on a cell, and the same steps have one run.
use Rattle.std.proofs.Common.{◌≡◌, ℕ, ◌<◌, List, [], ◌∷◌, length, get_or, refl, sym, ap, ap₂, subst, subst₂, ◌∙◌}
use Rattle.std.proofs.lemmas.List.{ext_get_or}
use Rattle.mb_deciding.specs.Vocabulary.{ReadsLast}
use Rattle.mb_claim.specs.declared.run.ClaimEntry.TheVariants as entry
use Rattle.mb_claim.specs.{ClaimAccess, ClaimEntry, Going, Stage, Claims, IsClaimLawful}
use Rattle.mb_claim.specs.{HasStage, part_on, object_history, IsClaimPrefix, entry_consumer, with_entry, history_from}
use Rattle.mb_claim.specs.{history_of, IsEntryAfter, AreEntriesOf, IsPlayed}
use Rattle.mb_claim.proofs.OlderHistories.{older_lawful}
use Rattle.mb_claim.proofs.HistorySteps.{own_part}
use Rattle.mb_claim.proofs.KindLaws.{AreDeciding, OneAct, OneOp}
use Rattle.mb_claim.proofs.Lists.{not_empty}
use Rattle.mb_claim.proofs.NextSteps.{one_next}
use Rattle.mb_claim.proofs.Unique.{one_stage_lem}

-- two accesses with the same consumer, cell, object, act and random word are equal
same_record :
    (a b : ClaimAccess) → a.consumer ≡ b.consumer → a.cell ≡ b.cell → a.step.object ≡ b.step.object
    → a.step.turn.act ≡ b.step.turn.act → a.step.turn.word ≡ b.step.turn.word → a ≡ b
same_record a b consumer cell object act word =
    let turn : a.step.turn ≡ b.step.turn = ap₂ (λ x w. record { act = x; word = w }) act word in
    let step : a.step ≡ b.step = ap₂ (λ o y. record { object = o; turn = y }) object turn in
    ap₂ (λ c k. record { consumer = c; cell = k; step = a.step }) consumer cell
    ∙ ap (λ x. record { consumer = b.consumer; cell = b.cell; step = x }) step

module _ (cs : Claims) (law : AreDeciding cs.table) (one : OneOp cs.table) (act : OneAct) where
  -- with the last access of a lawful history, the steps of its consumer on its cell are a prefix of a claim path
  last_prefix :
      (a : ClaimAccess) (h : List ClaimAccess) → IsClaimLawful cs (a ∷ h)
      → (s : Stage) × IsClaimPrefix cs a.consumer (a.step ∷ part_on a.consumer a.cell h) s
  last_prefix a h lawful =
      let mine = own_part a h in
      let of = lawful.parts a.consumer a.cell (λ none. not_empty _ _ (sym mine ∙ none)) in
      (of.2.0, subst (λ xs. IsClaimPrefix cs a.consumer xs of.2.0) mine of.2.1)

  -- two accesses of one consumer on one cell, with one random word, are equal if a lawful history can go on with either
  pub one_access :
      (a b : ClaimAccess) (h : List ClaimAccess) → IsClaimLawful cs (a ∷ h) → IsClaimLawful cs (b ∷ h)
      → a.consumer ≡ b.consumer → a.cell ≡ b.cell → a.step.turn.word ≡ b.step.turn.word → a ≡ b
  one_access a b h first second consumer cell word =
      let p = last_prefix a h first in
      let q = last_prefix b h second in
      let there : IsClaimPrefix cs a.consumer (b.step ∷ part_on a.consumer a.cell h) q.0 =
      subst₂ (λ c k. IsClaimPrefix cs c (b.step ∷ part_on c k h) q.0) (sym consumer) (sym cell) q.1 in
      let next =
      one_next cs.table law one a.consumer cs.kinds 0 a.consumer a.step b.step (part_on a.consumer a.cell h) p.0 q.0 p.1
      there in
      let reads : ReadsLast b.step.turn.act (object_history a.cell a.step.object h) =
      subst₂ (λ k o. ReadsLast b.step.turn.act (object_history k o h)) (sym cell) (sym next.0) second.memory.0 in
      same_record a b consumer cell next.0
      (act a.step.turn.act b.step.turn.act (object_history a.cell a.step.object h) next.1 first.memory.0 reads) word

  -- the claim of a consumer on a cell has one stage in a history
  one_stage : (c k : ℕ) (s r : Stage) (h : List ClaimAccess) → HasStage cs c k s h → HasStage cs c k r h → s ≡ r
  one_stage c k s r h p q = one_stage_lem cs.table law c cs.kinds 0 c (part_on c k h) s r p.1 q.1

  -- after a history a step has one entry at most. The accesses of entries are all on cell 0
  one_entry :
      (word : ℕ) (h : List ClaimAccess) (e f : ClaimEntry)
      → IsClaimLawful cs (with_entry word e h) → IsClaimLawful cs (with_entry word f h)
      → IsEntryAfter cs e h → IsEntryAfter cs f h → entry_consumer e ≡ entry_consumer f → e ≡ f
  one_entry word h (entry.Done c) (entry.Done d) l m x y same = ap entry.Done same
  one_entry word h (entry.Done c) (entry.Access d o b) l m x y same =
      absurd (x.2 (one_stage c 0 x.0 Going h x.1 (subst (λ n. HasStage cs n 0 Going h) (sym same) y)))
  one_entry word h (entry.Access c o a) (entry.Done d) l m x y same =
      absurd (y.2 (one_stage d 0 y.0 Going h y.1 (subst (λ n. HasStage cs n 0 Going h) same x)))
  one_entry word h (entry.Access c o a) (entry.Access d n b) l m x y same =
      ap (λ (z : ClaimAccess). entry.Access z.consumer z.step.object z.step.turn.act) (one_access
      (record { consumer = c; cell = 0; step = record { object = o; turn = record { act = a; word = word } } })
      (record { consumer = d; cell = 0; step = record { object = n; turn = record { act = b; word = word } } })
      h l m same refl refl)

  -- if a history is lawful with the access of an entry, it is lawful without it
  entry_older :
      (word : ℕ) (e : ClaimEntry) (h : List ClaimAccess) → IsClaimLawful cs (with_entry word e h) → IsClaimLawful cs h
  entry_older word (entry.Done c) h l = l
  entry_older word (entry.Access c o a) h l =
      older_lawful cs
      (record { consumer = c; cell = 0; step = record { object = o; turn = record { act = a; word = word } } }) h l

  -- if a history is lawful with the accesses of entries after it, it is lawful without them
  entries_older :
      (steps : List (ℕ × ℕ)) (es : List ClaimEntry) (h : List ClaimAccess)
      → IsClaimLawful cs (history_from steps es h) → IsClaimLawful cs h
  entries_older [] es h l = l
  entries_older (step ∷ steps) [] h l = l
  entries_older (step ∷ steps) (e ∷ es) h l =
      entry_older step.1 e h (entries_older steps es (with_entry step.1 e h) l)

  -- after a history the same steps have one list of entries
  one_list :
      (steps : List (ℕ × ℕ)) (es fs : List ClaimEntry) (h : List ClaimAccess)
      → IsClaimLawful cs (history_from steps es h) → IsClaimLawful cs (history_from steps fs h)
      → AreEntriesOf cs steps es h → AreEntriesOf cs steps fs h → es ≡ fs
  one_list [] [] [] h l m x y = refl
  one_list [] [] (f ∷ fs) h l m x y = absurd y
  one_list [] (e ∷ es) fs h l m x y = absurd x
  one_list (step ∷ steps) [] fs h l m x y = absurd x
  one_list (step ∷ steps) (e ∷ es) [] h l m x y = absurd y
  one_list (step ∷ steps) (e ∷ es) (f ∷ fs) h l m x y =
      let first : e ≡ f =
      one_entry step.1 h e f (entries_older steps es (with_entry step.1 e h) l)
      (entries_older steps fs (with_entry step.1 f h) m) x.1 y.1 (x.0 ∙ sym y.0) in
      ap₂ (λ d ds. d ∷ ds) first
      (one_list steps es fs (with_entry step.1 e h) l
      (subst (λ d. IsClaimLawful cs (history_from steps fs (with_entry step.1 d h))) (sym first) m) x.2
      (subst (λ d. AreEntriesOf cs steps fs (with_entry step.1 d h)) (sym first) y.2))

  -- the same steps have one list of entries and one of stages
  pub one_play :
      (steps : List (ℕ × ℕ)) (es fs : List ClaimEntry) (ss rs : List Stage)
      → IsPlayed cs steps es ss → IsPlayed cs steps fs rs → (es ≡ fs) × (ss ≡ rs)
  one_play steps es fs ss rs a b =
      let entries : es ≡ fs = one_list steps es fs [] a.lawful b.lawful a.fits b.fits in
      let long : length ss ≡ length rs = a.consumers ∙ sym b.consumers in (
        entries,
        ext_get_or Going ss rs long (λ c below.
            one_stage c 0 (get_or ss c Going) (get_or rs c Going) (history_of steps es) (a.reached c Going below)
            (subst (λ ds. HasStage cs c 0 (get_or rs c Going) (history_of steps ds)) (sym entries)
            (b.reached c Going (subst (λ n. c < n) long below)))),
      )
