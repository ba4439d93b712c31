-- Proof of `samples::worlds::worlds_go_on`: what was done in a small world, and where its consumers stand after it.
use Rattle.std.proofs.Common.{arith}
use Rattle.mb_quorum.specs.declared.table.TableName.TheVariants.{Unary}
use Rattle.mb_world.specs.ConsumerPath.{begins}
use Rattle.mb_world.specs.PathSamples.{two_cells}
use Rattle.mb_world.specs.Plan.{size_of}
use Rattle.mb_world.specs.World.{pool_accesses}
use Rattle.mb_world.specs.WorldSamples.{two_by_two}
use Rattle.mb_world.proofs.SampleWorlds.{Laws, all_done_lawful, begun_path, ended_path, first_path, second_goes}
use Rattle.mb_world.proofs.samples.worlds.worlds_go_on.Goals as goal

-- what the laws give for the small world. Each clause is a lemma of `SampleWorlds`, applied to this record
laws : goal.After-worlds_are_sound → Laws
laws c =
    record {
      empty = c.history_extends.ensures.empty two_by_two (omega arith);
      consumer = λ h d p a ks ns held lawful ds ps. c.history_extends.ensures.consumer two_by_two h d p a
          ks ns held (c.named_tables_are_lawful.ensures.lawful Unary 2 (omega arith)) lawful ds ps;
      producer = λ h p a lawful maker ps fits reads next.
          (c.history_extends.ensures.producer two_by_two h p a lawful maker
          (c.history_extends-2.ensures.producer (size_of two_by_two) (pool_accesses h) a p
          (c.worlds_are_sound.ensures.sound two_by_two h
          (c.named_tables_are_lawful.ensures.lawful Unary 2 (omega arith)) lawful).pool_lawful maker
          ps fits reads next)).lawful;
      prefix = λ p es phase done. c.places_lead_on.ensures.prefix 2 p es phase done;
      going = λ d x xs s. c.claims_have_one_next_op.ensures.going two_cells d x xs s;
      won = c.samples_are_lawful.ensures.won.1;
      lost = c.samples_are_lawful.ensures.lost.1;
    }

pub returns-clause-all : goal.returns-clause-all
returns-clause-all c = all_done_lawful (laws c)

pub returns-clause-took : goal.returns-clause-took
returns-clause-took c = first_path (laws c)

pub returns-clause-away : goal.returns-clause-away
returns-clause-away c = begins

pub returns-clause-lost : goal.returns-clause-lost
returns-clause-lost c = ended_path (laws c)

pub returns-clause-begun : goal.returns-clause-begun
returns-clause-begun c = begun_path (laws c)

pub returns-clause-going : goal.returns-clause-going
returns-clause-going c = second_goes (laws c)
