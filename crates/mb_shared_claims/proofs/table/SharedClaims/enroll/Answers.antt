-- Proof of `SharedClaims::enroll`: issues the seat of the next number.
use Rattle.std.proofs.Common.{◌≡◌, ◌<◌, ◌++◌, sym, ap, ◌∙◌, subst, [], ◌∷◌, None, length, length-append, arith}
use Rattle.mb_shared_claims.specs.Types.{TableSize, Issuing, Drawing, Standing}
use Rattle.mb_shared_claims.specs.Views.{claims_of_size}
use Rattle.mb_shared_claims.specs.ViewSteps.{Seated, roll_of, part_of, drawn, issued, newcomer}
use Rattle.mb_claim.specs.Vocabulary.{consumer_count}
use Rattle.mb_shared_claims.specs.Seats.{TableView, HubView, ClaimTable, name_of, size_in}
use Rattle.mb_shared_claims.proofs.Names.{size_named}
use Rattle.mb_shared_claims.proofs.Moves.{draw_asked, give_asked}
use Rattle.mb_shared_claims.proofs.Closing.{count_out-snoc, count_out_le}
use Rattle.mb_shared_claims.proofs.table.SharedClaims.enroll.Goals as goal

-- the hub may draw the next number, since fewer were issued than there are consumers
pub fetch_add-number-requires : goal.fetch_add-number-requires
fetch_add-number-requires g c =
    let hub = c.hub.invariant in
    let table = c.self.invariant in
    let same = ap (λ (v : HubView). v.table.id) c.hub.view_is ∙ ap (λ (t : ClaimTable). t.id) c.requires
    ∙ sym (ap (λ (v : TableView). v.id) c.self.view_is) in
    let given = hub.all in
    let ranges = c.hub.ranges in
    let wide = table.words in
    let is_at = c.words-roster.ensures.exact in
    let few = c.if-hub-consumers.false in
    let all = c.consumers.ensures in
    let k = c.self.inside.size in (
      same,
      omega arith,
      draw_asked _ k hub.size (c.other_words_are_free.ensures (claims_of_size k)) _ _ _ _
          (roll_of c.hub.inside.seat.me.0) table.told hub.is is_at (omega arith) (omega arith),
    )

-- after the fetch-add the hub's view says that a number was drawn
has_drawn : (size : TableSize) (me now : Seated) → me ≡ (Issuing size (roll_of me.0), []) → now ≡ (drawn me.0, me.1)
    → now ≡ (Drawing size (roll_of me.0), [])
has_drawn size me now is e = e ∙ ap (λ (z : Seated). (drawn z.0, z.1)) is

-- after the split the hub's roll has a place for that number, and its seat is out
has_given : (size : TableSize) (me now after : Seated) → now ≡ (Drawing size (roll_of me.0), [])
    → after ≡ (issued now.0, now.1) → after ≡ (Issuing size (roll_of me.0 ++ None ∷ []), [])
has_given size me now after is e = e ∙ ap (λ (z : Seated). (issued z.0, z.1)) is

-- the hub, which has drawn the number, may issue it
pub split_seat-seat-requires : goal.split_seat-seat-requires
split_seat-seat-requires g c =
    let e = c.fetch_add-number.ensures in
    let hub = c.hub.invariant in
    let wide = c.self.invariant.words in
    let same = ap (λ (v : HubView). v.table.id) c.hub.view_is ∙ ap (λ (t : ClaimTable). t.id) c.requires
    ∙ sym (ap (λ (v : TableView). v.id) c.self.view_is) in
    let now = has_drawn hub.size c.hub.inside.seat.me c.fetch_add-number.new.seat.me hub.is e.2.1 in
    (e.0 ∙ same, omega arith, give_asked _ hub.size _ _ (roll_of c.hub.inside.seat.me.0) (ap (λ (z : Seated). z.0) now))

-- no more seats are out than numbers were issued, so the count does not wrap
pub overflow_add-hub-2 : goal.overflow_add-hub-2
overflow_add-hub-2 g c =
    let few = c.if-hub-consumers.false in
    let given = c.hub.invariant.all in
    let out = c.hub.invariant.absent in
    let ranges = c.hub.ranges in
    let less = count_out_le (roll_of c.hub.inside.seat.me.0) in
    omega arith

-- the hub's counts are those of the roll with one number more, whose seat is out
pub invariant_of-hub : goal.invariant_of-hub
invariant_of-hub g c =
    let hub = c.hub.invariant in
    let roll = roll_of c.hub.inside.seat.me.0 in
    let before = has_drawn hub.size c.hub.inside.seat.me c.fetch_add-number.new.seat.me hub.is
    c.fetch_add-number.ensures.2.1 in
    let now = has_given hub.size c.hub.inside.seat.me c.fetch_add-number.new.seat.me
    c.split_seat-seat.new.seat.me before
    c.split_seat-seat.ensures.2 in
    let given = hub.all in
    let out = hub.absent in
    let list = ap (λ (z : Seated). roll_of z.0) now in
    record {
      size = hub.size;
      is = now ∙ sym (ap (λ (z : Seated). (Issuing hub.size (roll_of z.0), [])) now);
      all = rw list (omega (arith, length-append roll (None ∷ [])));
      absent = rw list (omega (arith, count_out-snoc roll));
    }

-- the new seat has the number drawn, which is one of the layout's consumers, and an empty part
pub invariant_of-result : goal.invariant_of-result
invariant_of-result g c =
    let hub = c.hub.invariant in
    let roll = roll_of c.hub.inside.seat.me.0 in
    let before = has_drawn hub.size c.hub.inside.seat.me c.fetch_add-number.new.seat.me hub.is
    c.fetch_add-number.ensures.2.1 in
    let now : c.split_seat-seat.result.me ≡ (Standing hub.size (length roll) [], []) =
    c.split_seat-seat.ensures.4 ∙ ap (λ (z : Seated). (newcomer z.0, [])) before in
    let found : c.fetch_add-number.result ≡ length roll = c.fetch_add-number.ensures.2.0 in
    let nothing = ap (λ (z : Seated). part_of z.0) now in
    let same : hub.size ≡ c.self.inside.size =
    size_named c.hub.inside.seat.table_id c.hub.inside.seat.me.0 hub.size (record {
      id = c.self.inside.table.shared.table_id;
      layout = c.self.inside.size.layout;
      cells = c.self.inside.size.cells;
    }) (ap (λ (z : Seated). size_in z.0) hub.is)
    (ap (λ (v : HubView). v.table) c.hub.view_is ∙ c.requires ∙ sym (ap name_of c.self.view_is)) in
    let few = c.if-hub-consumers.false in
    let given = hub.all in
    let all = c.consumers.ensures in
    record {
      size = hub.size;
      is = now ∙ (λ i. (Standing hub.size (sym found i) (sym nothing i), []));
      known = subst (λ (k : TableSize). c.fetch_add-number.result < consumer_count k.layout) (sym same) (omega arith);
      lawful = (
        [],
        c.histories_begin_with_zeros.ensures.lawful (claims_of_size hub.size),
        sym nothing,
      );
    }
