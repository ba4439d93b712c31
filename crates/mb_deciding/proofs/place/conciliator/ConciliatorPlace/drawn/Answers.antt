-- Proof of `ConciliatorPlace::drawn`: what follows the load of a process that has not stored.
use Rattle.std.proofs.Common.{◌≡◌, ◌≤◌, ◌<◌, ◌*◌, ◌%◌, ℕ, suc, ◌∷◌, sym, ap, ◌∙◌, subst}
use Rattle.mb_deciding.specs.{Value, Op, Act, Load, Conciliator, Draw, Put, InConciliator, PcIsAt, IsConciliatorPlace}
use Rattle.mb_deciding.specs.{IsInConciliator, act_of}
use Rattle.mb_deciding.specs.declared.access.Op.TheVariants as to
use Rattle.mb_deciding.proofs.ConciliatorPlaces.{low_bits, next_limits, draw_missed, draw_found}
use Rattle.mb_deciding.proofs.TurnsLeft.{attempts_fewer}
use Rattle.mb_deciding.proofs.place.conciliator.ConciliatorPlace.drawn.Goals as goal

-- if an op loads the conciliator's word and finds 0, its act is the load of 0
empty_load : (op : Op) (seen : ℕ) → op ≡ to.Load Value → seen ≡ 0 → act_of op seen ≡ Load Value 0
empty_load op seen is e = ap (λ o. act_of o seen) is ∙ ap (λ n. Load Value n) e

pub returns-then-word-odds-clause-reached : goal.returns-then-word-odds-clause-reached
returns-then-word-odds-clause-reached c t same s v turns op at is can =
    let input = c.args.input in
    let limit = c.args.odds.limit in
    let modulus = c.args.odds.modulus in
    let place : IsConciliatorPlace c.args.values (Draw input limit modulus) = c.requires in
    let made : IsInConciliator s v (Draw input limit modulus) turns = at.1 in
    let next : op ≡ to.Load Value = is in
    let stores : c.args.word % modulus < limit =
    rw (low_bits s made.1.0 limit modulus c.args.word made.1.1) at c.if-word-odds.true in
    subst (λ (act : Act). PcIsAt t (Conciliator s) v (InConciliator (Put input))
    (record { act = act; word = c.args.word } ∷ turns))
    (sym (empty_load op c.args.seen next c.if-seen-ne0.false))
    (subst (λ n. input < n) (sym same) place.0, draw_found s v input limit modulus c.args.word turns made stores)

pub returns-else-word-odds-clause-fits : goal.returns-else-word-odds-clause-fits
returns-else-word-odds-clause-fits c t same =
    let limit = c.args.odds.limit in
    let modulus = c.args.odds.modulus in
    let place : IsConciliatorPlace c.args.values (Draw c.args.input limit modulus) =
    c.requires in
    let s = place.1.0 in
    let k = place.1.1 in
    let none : limit ≤ c.args.word % modulus =
    rw (low_bits s k limit modulus c.args.word place.1.3) at c.if-word-odds.false in (
      subst (λ n. c.args.input < n) (sym same) place.0,
      (s, suc k, place.1.2, next_limits s k limit modulus c.args.word place.1.3 none),
    )

pub returns-else-word-odds-clause-reached : goal.returns-else-word-odds-clause-reached
returns-else-word-odds-clause-reached c t same s v turns op at is can =
    let input = c.args.input in
    let limit = c.args.odds.limit in
    let modulus = c.args.odds.modulus in
    let made : IsInConciliator s v (Draw input limit modulus) turns = at.1 in
    let next : op ≡ to.Load Value = is in
    let none : limit ≤ c.args.word % modulus =
    rw (low_bits s made.1.0 limit modulus c.args.word made.1.1) at c.if-word-odds.false in
    subst (λ (act : Act). PcIsAt t (Conciliator s) v (InConciliator (Draw input (limit * 2) modulus))
    (record { act = act; word = c.args.word } ∷ turns))
    (sym (empty_load op c.args.seen next c.if-seen-ne0.false))
    (returns-else-word-odds-clause-fits c t same, draw_missed s v input limit modulus c.args.word turns made none)

pub returns-else-word-odds-clause-fewer : goal.returns-else-word-odds-clause-fewer
returns-else-word-odds-clause-fewer c t =
    let limit = c.args.odds.limit in
    let modulus = c.args.odds.modulus in
    let place : IsConciliatorPlace c.args.values (Draw c.args.input limit modulus) =
    c.requires in
    let none : limit ≤ c.args.word % modulus =
    rw (low_bits place.1.0 place.1.1 limit modulus c.args.word place.1.3) at c.if-word-odds.false in
    attempts_fewer place.1.0 place.1.1 limit modulus place.1.3
    (next_limits place.1.0 place.1.1 limit modulus c.args.word place.1.3 none)
