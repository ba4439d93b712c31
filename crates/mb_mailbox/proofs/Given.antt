-- The numbers of new consumers, and the hub that issues them.
use Rattle.std.proofs.Common.{◌≡◌, ℕ, suc, ◌+◌, List, [], ◌∷◌, length, refl, ap, ◌∙◌, arith}
use Rattle.std.specs.Prelude.{None}
use Rattle.std.proofs.lemmas.List.{length-append}
use Rattle.mb_mailbox.specs.Consumers.{ConsumerView}
use Rattle.mb_mailbox.specs.HubRuns.{with_producers}
use Rattle.mb_mailbox.specs.Hubs.{HubView, IsHubOf, IsNewConsumer, with_consumer, with_producer}
use Rattle.mb_mailbox.specs.Jobs.{accesses_made}
use Rattle.mb_mailbox.specs.Mailboxes.{MailboxView}
use Rattle.mb_mailbox.proofs.HubRuns.{same_by_producers}

-- the consumer has this number, and has made no access
pub record HasNumber (c : ℕ) (s : ConsumerView) : Type 0 where
  pub reader : s.reader.reader ≡ c
  pub consumer : s.seat.consumer ≡ c
  pub none : accesses_made s ≡ 0

-- a new consumer has the hub's next number, and has made no access
pub new_number : (m : MailboxView) (h : HubView) (c : ℕ) (s : ConsumerView) → length h.records ≡ c
    → IsNewConsumer m h s → HasNumber c s
new_number m h c s e i = record {
  reader = ap (λ r. r.reader) i.reader ∙ e;
  consumer = ap (λ r. r.consumer) i.seat ∙ e;
  none = λ j. length (i.reader j).part + length (i.seat j).part;
}

-- with one consumer more, the hub has issued one number more
pub one_more : (h : HubView) (c : ℕ) → length h.records ≡ c → length (with_consumer h).records ≡ suc c
one_more h c e = let all = length-append h.records (None ∷ []) in omega (arith, all, e)

-- with one consumer more, the hub is still one of the mailbox
pub still_of : (m : MailboxView) (h : HubView) → IsHubOf m h → IsHubOf m (with_consumer h)
still_of m h belongs = record { cells = belongs.cells; claims = belongs.claims }

module _ {X : Type 0} where
  -- after producers were issued, the hub is still the mailbox's. By the next lemma it has as many consumers as before
  pub of_by_producers : (m : MailboxView) (xs : List X) (h : HubView) → IsHubOf m h → IsHubOf m (with_producers xs h)
  of_by_producers m xs h belongs = record {
    cells = same_by_producers (λ v. v.cells.table) (λ v. refl) xs h ∙ belongs.cells;
    claims = same_by_producers (λ v. v.claims.table) (λ v. refl) xs h ∙ belongs.claims;
  }

  pub count_by_producers : (xs : List X) (h : HubView) → length (with_producers xs h).records ≡ length h.records
  count_by_producers xs h = ap length (same_by_producers (λ v. v.records) (λ v. refl) xs h)

-- if two lists have the same length, a hub that issues a producer for each element is the same for both
pub producers_alike : {X Y : Type 0} (xs : List X) (ys : List Y) (h : HubView) → length xs ≡ length ys
    → with_producers xs h ≡ with_producers ys h
producers_alike [] [] h e = refl
producers_alike [] (y ∷ ys) h e = absurd (cc)
producers_alike (x ∷ xs) [] h e = absurd (cc)
producers_alike (x ∷ xs) (y ∷ ys) h e = producers_alike xs ys (with_producer h) (omega (arith, e))
