-- Proof of `laws::accesses_may_come_next`: what a process has done says which access of it may come next.
use Rattle.std.proofs.Common.{None, Some, arith, subst, sym, ⊎_elim, ℕ, ◌<◌, ◌^◌, ◌∷◌, ◌≡◌}
use Rattle.mb_cells.specs.Vocabulary.{IsLanePrefix, MayRead, finish_refusal, next_link, part, push_store, store}
use Rattle.mb_shared_cells.specs.Types.{Counter, END, Producer}
use Rattle.mb_shared_cells.proofs.NextAccesses.{fetch_follows, load_follows, pool_word, store_follows}
use Rattle.mb_shared_cells.proofs.laws.accesses_may_come_next.Goals as goal

-- a word that a reader may load is one of the pool's, so it holds what the history leaves in it
pub returns-clause-load : goal.returns-clause-load
returns-clause-load c = λ size words r w done may h memory mine fits.
    let now = subst (λ l. MayRead size.lanes w l) (sym mine) may in
    let stays = c.accesses_stay_within.ensures.load size h r w memory.lawful now in
    load_follows c.history_extends.ensures.reader size r done w may h _ memory.lawful mine
    (memory.left w (pool_word size w stays))

-- a store with which a producer's path goes on is that of a push or of the end mark, so its value is below 2^64
pub returns-clause-store : goal.returns-clause-store
returns-clause-store c = λ size words p w value done path h memory mine lane.
    let own = part (Producer p) h in
    let laws = c.lanes_lead_on.ensures in
    let on = laws.lane size.cells p own (memory.lawful.producers p) in
    let next = subst (λ l. IsLanePrefix size.cells p (store p w value ∷ l)) (sym mine) path in
    let small : value < 2 ^ 64 = ⊎_elim
    (λ (x : push_store p on.0 ≡ Some (w, value)).
    c.accesses_stay_within.ensures.fits size h p on.0 w value memory.lawful on.1 x)
    (λ (x : (finish_refusal on.0 ≡ None) × ((w ≡ next_link p on.0) × (value ≡ END))).
    subst (λ (z : ℕ). z < 2 ^ 64) (sym x.1.1) (omega arith))
    (laws.stores size.cells p on.0 own w value on.1 next) in
    store_follows c.history_extends.ensures.producer size p done w value small path h
    memory.lawful mine lane

pub returns-clause-fetch_add : goal.returns-clause-fetch_add
returns-clause-fetch_add c = λ size words p item done small low path h memory mine lane.
    fetch_follows c.history_extends.ensures.producer size p done item _ small low path h
    memory.lawful mine lane (memory.left Counter tt)
