-- Proof of `Pool::look`, which returns what comes after the cursor.
use Rattle.std.proofs.Common.{ap, arith, subst, sym, ℕ, ◌-◌, ◌<◌, ◌∙◌, ◌≡◌}
use Rattle.mb_cells.proofs.pool.Pool.look.Goals as goal
use Rattle.mb_cells.specs.{IsWithin, PoolState, cell_count, word_in}
use Rattle.mb_cells.specs.declared.answer.Look.TheVariants.{Cell}
use Rattle.mb_cells.proofs.PoolSteps.{cursor_word, link_bound}

-- the cell that a link leads to is one of the pool, so its number has 32 bits. In all clauses s is the pool's state
pub overflow_cast-result : goal.overflow_cast-result
overflow_cast-result g c =
    let s : PoolState = record { words = c.self.inside.words; lanes = c.self.inside.lanes.items } in
    let within : IsWithin c.args.cursor s =
    subst (λ (z : PoolState). IsWithin c.args.cursor z) (sym c.self.view_is) c.requires in
    let told = sym (c.load-link.ensures ∙ ap (λ w. word_in w s.words) c.word.ensures) in
    let low = link_bound s c.args.cursor c.load-link.result c.self.invariant within told c.if-link-eq0.false
    c.if-link.false in
    omega (arith, low, c.self.invariant.cells)

-- the word that the look loads is one of the pool's
pub load-link-requires : goal.load-link-requires
load-link-requires g c =
    let s : PoolState = record { words = c.self.inside.words; lanes = c.self.inside.lanes.items } in
    let within : IsWithin c.args.cursor s =
    subst (λ (z : PoolState). IsWithin c.args.cursor z) (sym c.self.view_is) c.requires in
    rw (c.word.ensures) (cursor_word s c.args.cursor c.self.invariant within)

-- two equal answers of a look have equal cells
same_cell : (n m : ℕ) → Cell n ≡ Cell m → n ≡ m
same_cell n m e = cc

-- the cell that the link leads to is one of the pool
pub returns-else-link-clause-within : goal.returns-else-link-clause-within
returns-else-link-clause-within g c = λ k is.
    let s : PoolState = record { words = c.self.inside.words; lanes = c.self.inside.lanes.items } in
    let within : IsWithin c.args.cursor s =
    subst (λ (z : PoolState). IsWithin c.args.cursor z) (sym c.self.view_is) c.requires in
    let low : c.load-link.result - 1 < cell_count s =
    link_bound s c.args.cursor c.load-link.result c.self.invariant within
    (sym (c.load-link.ensures ∙ ap (λ w. word_in w s.words) c.word.ensures)) c.if-link-eq0.false c.if-link.false in
    subst (λ (z : PoolState). k < cell_count z) c.self.view_is
    (subst (λ n. n < cell_count s) (same_cell (c.load-link.result - 1) k is) low)
