-- The rule of a table: its words and its views together are a state of the claims. Some lawful history of claims leaves
-- the words, and its parts are those of the views. The views together are one finite map from the numbers issued to
-- parts, and no number is in it twice.
use Rattle.std.specs.Prelude.{ℕ, suc, ◌≡◌, ◌+◌, ◌<◌, ◌≤◌, List, [], length, slice_index}
use Rattle.mb_claim.specs.Vocabulary.{part, words_in, consumer_count, IsMemoryOf}
use Rattle.mb_shared_claims.specs.Types.{ClaimAccess, TableSize, View, Issuing, Drawing, Standing, Taking, Spent}
use Rattle.mb_shared_claims.specs.Views.{claims_of_size, Roll, IsOut, IsViewAt, HasPartAt}

-- the address of the roster, the word that counts the numbers drawn: after the words of the cells
abbrev pub roster : TableSize → ℕ
roster size = words_in (claims_of_size size)

-- a plan: a history, and which seat has which part. It explains the words and the views of a table (`IsStateOf`)
pub record Plan : Type 0 where
  -- the history of all claims
  pub history : List ClaimAccess
  -- how many numbers were issued: 0, 1, .. below this
  pub given : ℕ
  -- which seat is the hub's
  pub hub : ℕ
  -- which seat has the part of each number
  pub place : ℕ → ℕ

-- the seat is the hub's, and its roll has a place for each number issued
abbrev pub IsHub : Plan → ℕ → Roll → Type 0
IsHub plan seat roll = (seat ≡ plan.hub) × (length roll ≡ plan.given)

-- the view of a seat has the table's size. The hub's view fits the plan, too: the roster counts the numbers issued, and
-- one more while the hub issues. The seat that the hub is taking back was out
abbrev pub FitsTable : TableSize → Plan → ℕ → ℕ → View → Type 0
FitsTable k plan drawn seat (Issuing size roll) = (size ≡ k) × IsHub plan seat roll × (drawn ≡ plan.given)
FitsTable k plan drawn seat (Drawing size roll) = (size ≡ k) × IsHub plan seat roll × (drawn ≡ suc plan.given)
FitsTable k plan drawn seat (Standing size own done) = size ≡ k
FitsTable k plan drawn seat (Taking size roll own done) =
    (size ≡ k) × IsHub plan seat roll × (drawn ≡ plan.given) × IsOut roll own
FitsTable k plan drawn seat Spent = Unit {0}

-- the plan explains the words and the views of a table of this size
pub record IsStateOf (k : TableSize) (words : List ℕ) (views : List View) (plan : Plan) : Type 0 where
  -- the history is lawful, and leaves the words of the cells
  pub memory : IsMemoryOf (claims_of_size k) words plan.history
  -- after the words of the cells there is the roster, and nothing else
  pub wide : length words ≡ roster k + 1
  -- at most as many numbers were drawn as there are consumers
  pub few : slice_index words (roster k) ≤ consumer_count k.layout
  -- each number issued was drawn
  pub drawn : plan.given ≤ slice_index words (roster k)
  -- the seat of each number issued has that consumer's part of the history
  pub stands : (c : ℕ) → c < plan.given → HasPartAt views (plan.place c) c (part c plan.history)
  -- each part that a seat has is the whole part of a number issued, and that number's place is this seat
  pub parts :
      (seat c : ℕ) (xs : List ClaimAccess) → HasPartAt views seat c xs
      → (c < plan.given) × (plan.place c ≡ seat) × (xs ≡ part c plan.history)
  -- a consumer whose number was not issued has done nothing
  pub others : (c : ℕ) → plan.given ≤ c → part c plan.history ≡ []
  -- each view fits the table
  pub fits : (seat : ℕ) (v : View) → IsViewAt views seat v → FitsTable k plan (slice_index words (roster k)) seat v

-- some plan explains the words and the views
abbrev pub IsClaimsState : TableSize → List ℕ → List View → Type 0
IsClaimsState k words views = (plan : Plan) × IsStateOf k words views plan
