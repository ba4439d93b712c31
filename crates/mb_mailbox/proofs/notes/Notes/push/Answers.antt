use Rattle.std.proofs.Common.{◌≡◌, ◌<◌, ◌∙◌, ◌∷◌, ◌++◌, [], ℕ, List, ap, arith, length, min, subst, sym, vec_capacity}
use Rattle.std.specs.Option.{option_map_or}
use Rattle.std.specs.Prelude.{Some, sum_by}
use Rattle.mb_mailbox.specs.LaneNotes.{AreMarked, Noted, NotesView, all_told, by_lane, told, words_in}
use Rattle.mb_mailbox.specs.Steps.{with_note}
use Rattle.mb_mailbox.specs.declared.notes.marks.Mark.{Mark}
use Rattle.mb_mailbox.proofs.LaneLists.{counted_on, grown, lane_low}
use Rattle.mb_mailbox.proofs.Marked.{few_words, told_lane, told_length, told_push, words_push}
use Rattle.mb_mailbox.proofs.notes.Notes.push.Goals as goal

-- In the proofs ms and ws are the marks and words before the call. `low` says that the notes have the lane. m is the
-- new mark, o its word if it needs one, and x its note
pub overflow_cast-lane : goal.overflow_cast-lane
overflow_cast-lane g c =
    let low = lane_low c.args.lane _ _ _ _ c.self.invariant (ap (λ (v : NotesView). v.lists) c.self.view_is)
    c.requires.lane in
    omega (arith, low)

pub pack-requires : goal.pack-requires
pack-requires g c =
    let low = lane_low c.args.lane _ _ _ _ c.self.invariant (ap (λ (v : NotesView). v.lists) c.self.view_is)
    c.requires.lane in
    let m = c.marked-mark.result.0 in
    let w = option_map_or (λ w. w) c.marked-mark.result.1 0 in
    let is : (told m 0).lane ≡ c.args.lane = told_lane m w ∙ ap (λ (x : Noted). x.lane) c.marked-mark.ensures.told in
    omega (arith, low, is)

pub put_word-requires : goal.put_word-requires
put_word-requires g c =
    let ms = c.self.inside.marks.items in
    let ws = c.self.inside.words.items in
    let room : sum_by length (by_lane c.self.inside.lanes (all_told ms ws))
    < min (vec_capacity c.self.inside.marks) (vec_capacity c.self.inside.words) =
    subst (λ (v : NotesView). sum_by length v.lists < v.room) (sym c.self.view_is) c.requires.room in
    let count = c.self.invariant.count in
    let words = c.self.invariant.words in
    let few = few_words ms in
    let len = c.self.inside.words.ok.0 in
    omega (arith, room, count, words, few, len)

pub invariant_of-self : goal.invariant_of-self
invariant_of-self g c =
    let lanes = c.self.inside.lanes in
    let ms = c.self.inside.marks.items in
    let ws = c.self.inside.words.items in
    let m = c.pack.result in
    let o = c.marked-mark.result.1 in
    let word = ap words_in c.pack.ensures ∙ c.marked-mark.ensures.word in
    let x = told m (option_map_or (λ w. w) o 0) in
    let is = ap (λ (m : Mark). told m (option_map_or (λ w. w) o 0)) c.pack.ensures ∙ c.marked-mark.ensures.told in
    let even = c.self.invariant.words in
    let longer = told_push ms ws m o even word in
    let low : c.args.lane < length (by_lane lanes (all_told ms ws)) =
    subst (λ (v : NotesView). c.args.lane < length v.lists) (sym c.self.view_is) c.requires.lane in
    let count = told_length 0 ms ws ∙ c.self.invariant.count in
    let ws2 = ws ++ option_map_or (λ w. w ∷ []) o [] in
    subst (λ (z : List Mark × List ℕ). AreMarked lanes z.0 z.1)
    (λ j. (sym c.push_reserved.ensures.items j, sym c.put_word.ensures.items j))
    (record {
      few = c.self.invariant.few;
      words = words_push ms ws m o even word;
      count = sym (told_length 0 (ms ++ m ∷ []) ws2)
          ∙ counted_on lanes c.args.lane c.args.note x (all_told ms ws) (all_told (ms ++ m ∷ []) ws2) longer
          is low count;
    })

pub returns : goal.returns
returns g c =
    let lanes = c.self.inside.lanes in
    let ms = c.self.inside.marks.items in
    let ws = c.self.inside.words.items in
    let m = c.pack.result in
    let o = c.marked-mark.result.1 in
    let word = ap words_in c.pack.ensures ∙ c.marked-mark.ensures.word in
    let x = told m (option_map_or (λ w. w) o 0) in
    let is = ap (λ (m : Mark). told m (option_map_or (λ w. w) o 0)) c.pack.ensures ∙ c.marked-mark.ensures.told in
    let longer = told_push ms ws m o c.self.invariant.words word in
    let new = all_told c.push_reserved.new.self.items c.put_word.new.words.items in
    let lists : new ≡ all_told ms ws ++ x ∷ [] =
    (λ j. all_told (c.push_reserved.ensures.items j) (c.put_word.ensures.items j)) ∙ longer in
    record {
      lists = grown lanes c.args.lane c.args.note x (all_told ms ws) new lists is
          ∙ ap (λ (v : NotesView). with_note c.args.lane (Some c.args.note) v.lists) c.self.view_is;
      room = (λ j. min (c.push_reserved.ensures.capacity j) (c.put_word.ensures.room j))
          ∙ ap (λ (v : NotesView). v.room) c.self.view_is;
    }
