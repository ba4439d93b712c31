-- Proof of `ascii_text`, which returns the bytes as a text, or `None` if one of them is not ASCII.
use Rattle.std.proofs.lemmas.Str.{IsUtf8-from_ascii}
use Rattle.mb_script.proofs.Ascii.{all_ascii}
use Rattle.mb_script.proofs.text.ascii_text.Goals as goal

pub unreachable-requires : goal.unreachable-requires
unreachable-requires c = absurd (c.in_default.ensures.cases.0 (IsUtf8-from_ascii _ c.if-not-is_ascii.ensures.cases))

pub returns : goal.returns
returns c = (all_ascii _ c.if-not-is_ascii.ensures.cases, c.in-Ok.ensures.cases.0)
