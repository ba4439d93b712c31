use Rattle.mb_channel.proofs.Since.{up_then}
use Rattle.mb_channel.proofs.laws.told_comes_later.Goals as goal

pub returns : goal.returns
returns g c = record {
  later = λ x y k l m n bs cs ds es hs a b up keeps.
      keeps b.place (up_then _ l b.place a.known (up_then l m b.place up b.behind));
  returned = λ x y k l m bs cs ks ls hs n a b up keeps.
      keeps b.place (up_then _ l b.place a.known (up_then l m b.place up b.behind));
}
