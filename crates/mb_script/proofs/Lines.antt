-- The first line of a text.
use Rattle.std.proofs.Common.{◌≡◌, ℕ, ◌<◌, Bool, nat_eq, List, [], ◌∷◌, length, Option, Some, None, Bor, refl}
use Rattle.std.specs.Prelude.{MatchOption}
use Rattle.std.specs.Option.{unwrap_or}
use Rattle.std.specs.List.{position_or_len, before_first, after_first}
use Rattle.mb_script.specs.Text.{lines_of}
use Rattle.mb_script.proofs.Cuts.{parts_cut, parts_last}

-- whether a byte ends a line: it is LF
abbrev ends : ℕ → Bool
ends b = nat_eq b 10

-- if a text has an LF, its first line stands before the first LF, and its other lines are those after it. If a text has
-- no LF and is not empty, it is its only line
lines_cut : (bs : List ℕ) → position_or_len ends bs < length bs
    → lines_of bs ≡ before_first ends bs ∷ lines_of (after_first ends bs)
lines_cut = parts_cut ends lines_of (λ b bs. refl)

lines_last : (bs : List ℕ) → position_or_len ends bs ≡ length bs → 0 < length bs → lines_of bs ≡ bs ∷ []
lines_last = parts_last ends lines_of (λ b bs. refl) (λ b. refl)

-- the text before its first LF, or all of it if it has none, is its first line, and the other lines are those after it
pub line_taken : (t : List ℕ) (cut : Option (Bor (List ℕ) × Bor (List ℕ))) (all : Bor (List ℕ) × Bor (List ℕ))
    → MatchOption cut (position_or_len ends t ≡ length t)
    (λ x. (x.0.now ≡ before_first ends t) × (x.1.now ≡ after_first ends t) × (position_or_len ends t < length t))
    → 0 < length t → all.0.now ≡ t → all.1.now ≡ []
    → lines_of t ≡ (unwrap_or cut all).0.now ∷ lines_of (unwrap_or cut all).1.now
line_taken t (Some x) all found some same none = rw (found.0, found.1) (lines_cut t found.2)
line_taken t None all absent some same none = rw (same, none) (lines_last t absent some)
