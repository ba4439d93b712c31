use Rattle.std.proofs.Common.{Some, sym, ◌∙◌}
use Rattle.mb_channel.specs.Begun.{half_in}
use Rattle.mb_channel.specs.Halves.{place_in}
use Rattle.mb_channel.proofs.Halves.{reads_value}
use Rattle.mb_channel.proofs.halfway.Halfway.read.Goals as goal

pub read-value-requires : goal.read-value-requires
read-value-requires g c =
    let h = c.args.self in
    let is = c.requires.reader in
    let r = reads_value h.at h.begun.position (half_in h.begun.pass) _ is.0.0 is.0.1 h.begun.begun.0 in
    record { named = h.named; reads = (r.0, (r.1, is.1)) }

pub returns-clause-value : goal.returns-clause-value
returns-clause-value g c =
    let h = c.args.self in
    let is = c.requires.reader in
    let r = reads_value h.at h.begun.position (half_in h.begun.pass) _ is.0.0 is.0.1 h.begun.begun.0 in
    let same = sym (c.read-value.ensures.value r.0 (r.1, is.1)) in
    r.2 ∙ λ i. Some record { place = place_in h; value = same i }
