-- What one worker of a run came to, by its producer or its consumer.
use Rattle.std.proofs.Common.{◌≡◌, ℕ, ◌+◌, Bool, true, false, List, arith, length, refl, subst}
use Rattle.mb_mailbox.specs.ConsumerWords.{ConsumerView}
use Rattle.mb_mailbox.specs.Hubs.{record_of}
use Rattle.mb_mailbox.specs.Vocabulary.{ConsumerEnd, HasMetEnd, HasMetEnds, HasReadEnds, ProducerEnd, ProducerView, items_behind}

-- what a producer came to, and by `consumer_end` what a consumer came to
abbrev pub producer_end : ProducerView → Bool → ProducerEnd
producer_end s stopped = record { put = s.items; part = s.seat.part; stopped = stopped }

abbrev pub consumer_end : ConsumerView → Bool → ConsumerEnd
consumer_end s stopped =
    record { kept = record_of s; reads = s.reader.part; claimed = s.seat.part; stopped = stopped }

-- a consumer of number c that has read some lanes to their end marks has loaded each of these end marks once
pub met_at : (from end c : ℕ) (s : ConsumerView) → s.reader.reader ≡ c → HasReadEnds from end s
    → HasMetEnds from end c s.reader.part
met_at from end c s is r = record {
  marks = r.marks;
  within = r.within;
  met = λ p e.
      let to_end = r.read p e in
      let met : HasMetEnd s.reader.reader p s.reader.part =
      record { cells = to_end.cells; met = to_end.met; end = to_end.end } in
      subst (λ (n : ℕ). HasMetEnd n p s.reader.part) is met;
  once = r.once;
}

-- if `full` is the rest of the list after the items put, or 0 if the producer was stopped, it is `items_behind`
pub behind : (stopped : Bool) (list put : List ℕ) (full : ℕ) → (stopped ≡ false → length put + full ≡ length list)
    → (stopped ≡ true → full ≡ 0) → full ≡ items_behind stopped list put
behind true list put full rest none = none refl
behind false list put full rest none = let e = rest refl in omega (arith, e)
