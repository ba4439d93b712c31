-- Loads of a consumer on lane 0, the newest first, for samples.
use Rattle.std.specs.Prelude.{[], ◌∷◌}
use Rattle.mb_mailbox.specs.Imports.{Head, History, Link, load}
use Rattle.mb_mailbox.specs.Consumers.{ConsumerView}

-- the consumer, but with these loads
abbrev pub with_loads : ConsumerView → History → ConsumerView
with_loads s loads = record s { reader = record s.reader { part = loads } }

-- it has loaded the head, which led to cell 0, and no link
abbrev pub met_one : ConsumerView → History
met_one s = load s.reader.reader (Head 0) 1 ∷ []

-- then it has loaded the link of cell 0, and found nothing
abbrev pub looked_past : ConsumerView → History
looked_past s = load s.reader.reader (Link 0) 0 ∷ met_one s
