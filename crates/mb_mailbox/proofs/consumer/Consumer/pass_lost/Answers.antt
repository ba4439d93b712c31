-- Proof of `Consumer::pass_lost`: the consumer's fields go past items that it loses.
use Rattle.std.proofs.Common.{◌≡◌, ◌∙◌, [], ◌∷◌, ap, arith, subst, sym}
use Rattle.std.specs.Prelude.{Some}
use Rattle.mb_deciding.specs.declared.object.Kind.TheVariants.{LastObject}
use Rattle.mb_world.specs.declared.place.Place.{Place}
use Rattle.mb_mailbox.specs.Imports.{Layout, PoolSize, kinds_of}
use Rattle.mb_mailbox.specs.{Came.HasGonePast, ConsumerWords.{IsConsumerOf, with_fields}}
use Rattle.mb_mailbox.specs.Mailboxes.{MailboxView}
use Rattle.mb_mailbox.proofs.Made.{cells_size}
use Rattle.mb_mailbox.proofs.consumer.Consumer.pass_lost.Goals as goal

pub place_at-requires : goal.place_at-requires
place_at-requires g c =
    let lanes = c.self.invariant.0.places_count ∙ ap (λ (z : PoolSize). z.lanes)
    (cells_size c.args.mailbox.now (with_fields c.self.inside.fields)
    c.args.self.now c.self.view_is c.requires.belongs) in
    omega (arith, lanes, c.requires.lane)

pub pass-requires : goal.pass-requires
pass-requires g c =
    let lanes = c.self.invariant.0.places_count ∙ ap (λ (z : PoolSize). z.lanes)
    (cells_size c.args.mailbox.now (with_fields c.self.inside.fields)
    c.args.self.now c.self.view_is c.requires.belongs) in
    record {
      is = c.self.invariant.0;
      place = c.place_at.ensures ∙ ap (λ (z : Place). Some z) c.in-Before.is;
      lane = omega (arith, lanes, c.requires.lane);
      belongs = subst (λ o. IsConsumerOf c.args.mailbox.now o) (sym c.self.view_is) c.requires.belongs;
      wide = c.self.invariant.1;
      alone = subst (λ (l : Layout). kinds_of l ≡ LastObject ∷ [])
          (c.layout.ensures ∙ ap (λ (v : MailboxView). v.claims.layout) c.mailbox.view_is)
          (c.is_alone.ensures.0 c.if-not-is_alone.false);
    }

pub invariant_of-self-2 : goal.invariant_of-self-2
invariant_of-self-2 g c = (c.pass.ensures.is, c.pass.ensures.wide)

pub returns-clause-gone : goal.returns-clause-gone
returns-clause-gone g c =
    subst (λ o. HasGonePast c.args.lane c.args.left.now c.pass.new.left c.pass.result (g.R.Rng.stream c.args.rng.now)
    (g.R.Rng.stream c.pass.new.rng) o (with_fields c.pass.new.fields)) c.self.view_is c.pass.ensures.gone
