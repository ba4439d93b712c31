-- Proof of `laws::states_have_one_history`: one lawful history leaves the words, and has the parts that the views have.
use Rattle.std.proofs.Common.{List, [], arith, subst, sym, ℕ, ◌≢◌, ◌∙◌}
use Rattle.std.proofs.Math.Decide.{dec_lt}
use Rattle.mb_cells.specs.Vocabulary.{History, part}
use Rattle.mb_shared_cells.specs.Types.{Hub, PoolSize, Process, Producer, Reader, View}
use Rattle.mb_shared_cells.specs.Vocabulary.{HasPart, IsEnrolled, IsTableState, Seating, TellsPart, TellsPartAt}
use Rattle.mb_shared_cells.proofs.Seatings.{told_part}
use Rattle.mb_shared_cells.proofs.laws.states_have_one_history.Goals as goal

-- each process either was issued or was not
enrolled_or_not : (t : Seating) (who : Process) → Dec (IsEnrolled t who)
enrolled_or_not t (Producer p) = dec_lt p t.lanes
enrolled_or_not t (Reader r) = dec_lt r t.readers

-- a part that a view has is that of its process in the seating's history
told : (size : PoolSize) (words : List ℕ) (views : List View) (t : Seating) (seat : ℕ)
    (who : Process) (done : History) → IsTableState size words views t
    → TellsPartAt views seat who done → HasPart t seat who done
told size words views t seat who done r x =
    told_part size t _ seat x.0 who done (r.fits seat x.0 x.1) x.2

-- a process that has done something is in the view of its seat
standing : (size : PoolSize) (words : List ℕ) (views : List View) (t : Seating) (who : Process)
    → IsTableState size words views t → part who t.history ≢ [] → Dec (IsEnrolled t who)
    → (seat : ℕ) × TellsPartAt views seat who (part who t.history)
standing size words views t who r some (no out) = absurd (some (r.nobody_else who out))
standing size words views t who r some (yes e) =
    let x = r.stands who e in
    let there = told size words views t (t.seat_of who) who x.2.0 r (x.0, x.1, x.2.1) in
    (t.seat_of who, (x.0, x.1, subst (TellsPart x.0 who) there.part x.2.1))

-- the history that the clause asks for is that of the state's seating
pub returns-clause-history : goal.returns-clause-history
returns-clause-history c = λ size words views held.
    let t = held.0 in
    let r = held.1 in (
      t.history,
      r.memory,
      (λ seat who done x. (told size words views t seat who done r x).part),
      (λ who some. standing size words views t who r some (enrolled_or_not t who)),
      (λ seat own who known done is p theirs at. sym ((r.fits seat _ is).3 p theirs at).2),
    )

pub returns-clause-numbers : goal.returns-clause-numbers
returns-clause-numbers c = λ size words views seat p done held x.
    let low = (told size words views held.0 seat (Producer p) done held.1 x).enrolled in
    let drawn = held.1.drawn in
    omega arith

pub returns-clause-next : goal.returns-clause-next
returns-clause-next c = λ size own words views id roll held is.
    let x = held.1.fits id (Hub own roll) is in x.1 ∙ sym x.0.lanes
