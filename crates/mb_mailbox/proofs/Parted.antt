-- The ends of a run: first those of its producers, and then those of its consumers.
use Rattle.std.proofs.Common.{◌≡◌, ℕ, ◌+◌, ◌∙◌, Bool, List, [], ◌∷◌, ◌++◌, All, ap, arith, map, refl, subst, sum_by, sym}
use Rattle.std.specs.Int.{from_bool}
use Rattle.std.specs.List.{AllZip}
use Rattle.std.proofs.lemmas.List.Elements.{All-cons, All-head, All-tail}
use Rattle.std.proofs.lemmas.List.Sums.{sum_by-append, sum_by-cons}
use Rattle.mb_mailbox.specs.Imports.{Stream}
use Rattle.mb_mailbox.specs.HubRuns.{with_taken_consumers, with_taken_producers}
use Rattle.mb_mailbox.specs.Hubs.{with_taken_consumer, with_taken_producer}
use Rattle.mb_mailbox.specs.Vocabulary.{Done, HubView, IsDoneOf, IsEnd, IsJobOf, IsPollEnd, IsPutEnd, Job, Lanes, MailboxView, PollDone, PollJob, PutDone, PutJob, Who, full_of, is_stopped, with_taken}
use Rattle.mb_mailbox.specs.declared.crew.jobs.Done.TheVariants as done
use Rattle.mb_mailbox.specs.declared.crew.jobs.Job.TheVariants as job

-- anything holds of all elements of the empty list
nothing : {X : Type 0} (P : X → Type 0) → All P []
nothing P k d low = absurd (omega (arith, low))

module _ {R Z : Type 0} (may_stop may_pass : Who → ℕ → Type 0) (stream : R → Stream) (lanes : Lanes) where
  -- ---- the ends of jobs
  -- these ends are those of the producers' jobs, and then those of the consumers' jobs
  pub record Parted (js : List (PutJob Z)) (ks : List (PollJob R Z)) (ends : List (Done Z)) : Type 0 where
    pub puts : List (PutDone Z)
    pub polls : List (PollDone Z)
    pub whole : ends ≡ map done.Put puts ++ map done.Poll polls
    pub put : AllZip (IsPutEnd may_stop may_pass) js puts
    pub polled : AllZip (λ j d. IsPollEnd may_stop may_pass lanes.from lanes.end lanes.budget
        (stream j.rng) j.consumer d) ks polls

  polls_parted : (ks : List (PollJob R Z)) (ends : List (Done Z))
      → AllZip (IsEnd may_stop may_pass stream lanes) (map job.Poll ks) ends
      → (es : List (PollDone Z)) × (ends ≡ map done.Poll es)
      × AllZip (λ j d. IsPollEnd may_stop may_pass lanes.from lanes.end lanes.budget
      (stream j.rng) j.consumer d) ks es
  polls_parted [] [] z = ([], refl, tt)
  polls_parted [] (d ∷ ds) z = absurd z
  polls_parted (k ∷ ks) [] z = absurd z
  polls_parted (k ∷ ks) (done.Put d ∷ ds) z = absurd z.0
  polls_parted (k ∷ ks) (done.Poll d ∷ ds) z =
      let t = polls_parted ks ds z.1 in (d ∷ t.0, ap (λ l. done.Poll d ∷ l) t.1, (z.0, t.2))

  -- if the producers' jobs come first, and then the consumers', their ends come in the same order
  pub parted : (js : List (PutJob Z)) (ks : List (PollJob R Z)) (ends : List (Done Z))
      → AllZip (IsEnd may_stop may_pass stream lanes) (map job.Put js ++ map job.Poll ks) ends → Parted js ks ends
  parted [] ks ends z =
      let t = polls_parted ks ends z in record { puts = []; polls = t.0; whole = t.1; put = tt; polled = t.2 }
  parted (j ∷ js) ks [] z = absurd z
  parted (j ∷ js) ks (done.Poll d ∷ ds) z = absurd z.0
  parted (j ∷ js) ks (done.Put d ∷ ds) z =
      let t = parted js ks ds z.1 in
      record {
        puts = d ∷ t.puts;
        polls = t.polls;
        whole = ap (λ l. done.Put d ∷ l) t.whole;
        put = (z.0, t.put);
        polled = t.polled;
      }

  -- if the producer or consumer of a job is one of the mailbox, so is the producer or consumer of the job's end
  end_at : (m : MailboxView) (j : Job R Z) (d : Done Z) → IsJobOf m j → IsEnd may_stop may_pass stream lanes j d
      → IsDoneOf m d
  end_at m (job.Put j) (done.Put d) o e = record { table = e.same.table ∙ o.table }
  end_at m (job.Put j) (done.Poll d) o e = absurd e
  end_at m (job.Poll j) (done.Put d) o e = absurd e
  end_at m (job.Poll j) (done.Poll d) o e = record {
    cells = e.same.cells ∙ o.cells;
    claims = e.same.claims ∙ o.claims;
  }

  pub ends_at : (m : MailboxView) (js : List (Job R Z)) (ds : List (Done Z)) → All (IsJobOf m) js
      → AllZip (IsEnd may_stop may_pass stream lanes) js ds → All (IsDoneOf m) ds
  ends_at m [] [] a z = nothing (IsDoneOf m)
  ends_at m [] (d ∷ ds) a z = absurd z
  ends_at m (j ∷ js) [] a z = absurd z
  ends_at m (j ∷ js) (d ∷ ds) a z =
      All-cons (IsDoneOf m) d ds (end_at m j d (All-head (IsJobOf m) j js a) z.0)
      (ends_at m js ds (All-tail (IsJobOf m) j js a) z.1)

-- ---- what the ends of both kinds say together
-- if f x is g (h x) for each x, the sum of f over a list is the sum of g over the list mapped by h
pub sum_same : {X Y : Type 0} (f : X → ℕ) (g : Y → ℕ) (h : X → Y) → ((x : X) → f x ≡ g (h x))
    → (xs : List X) → sum_by f xs ≡ sum_by g (map h xs)
sum_same f g h e [] = refl
sum_same f g h e (x ∷ xs) = sum_by-cons f x xs ∙ (λ i. e x i + sum_same f g h e xs i)
    ∙ sym (sum_by-cons g (h x) (map h xs))

module _ {Z : Type 0} where
  -- a sum over all ends is the sum over the producers' ends plus the sum over the consumers' ends
  sum_parted : (f : Done Z → ℕ) (ds : List (PutDone Z)) (es : List (PollDone Z))
      → sum_by f (map done.Put ds ++ map done.Poll es)
      ≡ sum_by (λ d. f (done.Put d)) ds + sum_by (λ d. f (done.Poll d)) es
  sum_parted f ds es =
      let all = sum_by-append f (map done.Put ds) (map done.Poll es) in
      let puts = sum_same (λ (d : PutDone Z). f (done.Put d)) f done.Put (λ d. refl) ds in
      let polls = sum_same (λ (d : PollDone Z). f (done.Poll d)) f done.Poll (λ d. refl) es in
      omega (arith, all, puts, polls)

  pub stopped_parted : (ds : List (PutDone Z)) (es : List (PollDone Z))
      → sum_by (λ d. from_bool (is_stopped d)) (map done.Put ds ++ map done.Poll es)
      ≡ sum_by (λ (d : PutDone Z). from_bool d.stopped) ds + sum_by (λ (d : PollDone Z). from_bool d.stopped) es
  stopped_parted ds es = sum_parted (λ d. from_bool (is_stopped d)) ds es

  no_sum : (es : List (PollDone Z)) → sum_by (λ (d : PollDone Z). 0) es ≡ 0
  no_sum [] = refl
  no_sum (e ∷ es) =
      let all = sum_by-cons (λ (d : PollDone Z). 0) e es in
      let rest = no_sum es in
      omega (arith, all, rest)

  pub full_parted : (ds : List (PutDone Z)) (es : List (PollDone Z))
      → sum_by full_of (map done.Put ds ++ map done.Poll es) ≡ sum_by (λ (d : PutDone Z). d.full) ds
  full_parted ds es =
      let all = sum_parted full_of ds es in
      let none = no_sum es in
      omega (arith, all, none)

  -- what holds of all ends holds of the producers' ends and of the consumers'
  pub all_parted : (P : Done Z → Type 0) (ds : List (PutDone Z)) (es : List (PollDone Z))
      → All P (map done.Put ds ++ map done.Poll es) → All (λ d. P (done.Put d)) ds × All (λ d. P (done.Poll d)) es
  all_parted P [] [] a = (nothing (λ d. P (done.Put d)), nothing (λ d. P (done.Poll d)))
  all_parted P [] (e ∷ es) a =
      let later = map done.Poll es in (
        nothing (λ d. P (done.Put d)),
        All-cons (λ d. P (done.Poll d)) e es (All-head P (done.Poll e) later a)
            (all_parted P [] es (All-tail P (done.Poll e) later a)).1,
      )
  all_parted P (d ∷ ds) es a =
      let later = map done.Put ds ++ map done.Poll es in
      let rest = all_parted P ds es (All-tail P (done.Put d) later a) in
      (All-cons (λ d. P (done.Put d)) d ds (All-head P (done.Put d) later a) rest.0, rest.1)

  -- a hub that takes back the ends in this order takes back the producers, and then the consumers
  pub taken_parted : (ds : List (PutDone Z)) (es : List (PollDone Z)) (h : HubView)
      → with_taken (map done.Put ds ++ map done.Poll es) h
      ≡ with_taken_consumers (map (λ d. d.consumer) es) (with_taken_producers (map (λ d. d.producer) ds) h)
  taken_parted [] [] h = refl
  taken_parted [] (e ∷ es) h = taken_parted [] es (with_taken_consumer e.consumer h)
  taken_parted (d ∷ ds) es h = taken_parted ds es (with_taken_producer d.producer h)
