-- What comes of a load of the link before which a consumer stands: no note, and an answer or none.
use Rattle.std.proofs.Common.{◌≡◌, ◌≢◌, ◌⊎◌, ℕ, inl, inr, refl, sym}
use Rattle.std.specs.Prelude.{None}
use Rattle.mb_cells.specs.declared.answer.Look.TheVariants as look
use Rattle.mb_shared_cells.specs.Vocabulary.{LookMakes}
use Rattle.mb_mailbox.specs.Imports.{Cursor, END, Look, ReaderSeatView, look_of}
use Rattle.mb_mailbox.specs.ConsumerStep.{link_answer}
use Rattle.mb_mailbox.specs.Consumers.{ConsumerView}
use Rattle.mb_mailbox.specs.Steps.{AnswerTells, note_with}

-- no answer of a load of a link comes with a note
pub quiet : (l : Look) → note_with (link_answer l) ≡ None
quiet look.Nothing = refl
quiet look.Ended = refl
quiet (look.Cell k) = refl

-- if the load comes to an answer, it found no cell
pub no_cell : ((v : ℕ) → look_of v ≡ look.Nothing → v ≡ 0) → ((v : ℕ) → look_of v ≡ look.Ended → v ≡ END)
    → (l : Look) (v : ℕ) → l ≡ look_of v → link_answer l ≢ None → (v ≡ 0) ⊎ (v ≡ END)
no_cell nothing ended look.Nothing v e some = inl (nothing v (sym e))
no_cell nothing ended look.Ended v e some = inr (ended v (sym e))
no_cell nothing ended (look.Cell k) v e some = absurd (some refl)

-- if the load comes to an answer, `AnswerTells` holds of it, since it does for `Nothing` and for `Ended`
pub look_tells : (p : ℕ) (at : Cursor) (s new : ConsumerView) (now : ReaderSeatView)
    → (LookMakes s.reader at look.Nothing now → AnswerTells p (link_answer look.Nothing) s new)
    → (LookMakes s.reader at look.Ended now → AnswerTells p (link_answer look.Ended) s new)
    → (l : Look) → LookMakes s.reader at l now → link_answer l ≢ None → AnswerTells p (link_answer l) s new
look_tells p at s new now nothing ended look.Nothing m some = nothing m
look_tells p at s new now nothing ended look.Ended m some = ended m
look_tells p at s new now nothing ended (look.Cell k) m some = absurd (some refl)
