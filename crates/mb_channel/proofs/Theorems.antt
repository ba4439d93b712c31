-- The points of a channel, of a moment and of a whole life.
use Rattle.std.proofs.Common.{ℕ, List, length, ap, ◌∙◌}
use Rattle.mb_channel.specs.ChannelTheorem.{EachMoment, End, History, Moment, TakenInTurn, WholeLife}
use Rattle.mb_channel.specs.Segments.{AreLogs, EachKeeps, InTurn, KeepsEnd}
use Rattle.mb_channel.proofs.Turns.{all_taken, awake_of, left_here, turns}
use Rattle.mb_channel.proofs.Logs.{sent_logs, taken_logs}
use Rattle.mb_channel.specs.Stays.{AreStays, Told, life_of}
use Rattle.mb_channel.proofs.Ends.{got_so, left_so, sent_so, turn_so}

module _ {T : Type 0} where
  pub each_moment : (m : Moment T) → EachKeeps m.segments → InTurn m.segments → KeepsEnd m → EachMoment m
  each_moment m k turn end = record {
    turn = turns m.segments k turn;
    empty = λ s has came on none. ap length (left_here m.segments turn s has came on ∙ none);
    closed = λ is. let e = end.told is in (e.0, ap length (all_taken m.segments e.1));
    refused = end.refused;
    awake = awake_of m.segments k turn;
    ended = end.ended;
  }

  pub whole_life : (hs : List (History T)) (ends : ℕ → End T) (back : List T)
      → TakenInTurn hs → AreLogs hs ends back → WholeLife hs ends back
  whole_life hs ends back turn logs = record {
    order = λ n. logs.sends n ∙ sent_logs n 0 hs;
    after = logs.after;
    takers = λ n. logs.takes n ∙ taken_logs n 0 hs turn;
    later = logs.later;
    turn = turn;
    rest = logs.rest;
  }

  pub passes_are_ends : (ts : List (Told T)) (ends : ℕ → End T) (back : List T)
      → AreStays ts ends back → WholeLife (life_of ts) ends back
  passes_are_ends ts ends back a = whole_life (life_of ts) ends back (turn_so ts a.turn) (record {
    sends = λ n. a.sends n ∙ sent_so n 0 ts;
    after = a.after;
    takes = λ n. a.takes n ∙ got_so n 0 ts;
    later = a.later;
    rest = a.rest ∙ left_so ts;
  })
