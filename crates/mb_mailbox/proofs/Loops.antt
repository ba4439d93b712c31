-- What the loops of a run keep with one element more, and what holds before and after them.
use Rattle.std.proofs.Common.{◌≡◌, ℕ, zero, suc, ◌+◌, ◌<◌, ◌||◌, Bool, true, false, refl, List, [], ◌∷◌, ◌++◌, ◌-◌, ◌*◌, ◌≤◌, length, map, min, sym, ap, ◌∙◌, subst, arith}
use Rattle.std.specs.Prelude.{Vec}
use Rattle.std.proofs.Math.Nat.{mul-suc}
use Rattle.std.specs.List.{All, sum_by}
use Rattle.std.proofs.lemmas.List.{append-nil, append_assoc, length-append, length-map, map-append}
use Rattle.std.proofs.lemmas.List.Elements.{All-cons, All-head, All-push, All-tail}
use Rattle.std.proofs.lemmas.List.Sums.{sum_by-append, sum_by-cons}
use Rattle.mb_mailbox.specs.Issued.{AreGiven, ArePollJobs, ArePollsIssued, ArePutJobs, ArePutsIssued}
use Rattle.mb_mailbox.specs.HubRuns.{with_consumers}
use Rattle.mb_mailbox.specs.Hubs.{HubView, IsNewConsumer, new_producer, with_consumer, with_producer}
use Rattle.mb_mailbox.specs.Mailboxes.{MailboxView}
use Rattle.mb_mailbox.specs.Runs.{ArePutsFirst, with_taken, with_taken_one}
use Rattle.mb_mailbox.proofs.HubRuns.{consumers_snoc, producers_snoc}
use Rattle.mb_mailbox.specs.declared.crew.jobs.Done.{Done}
use Rattle.mb_mailbox.specs.declared.crew.jobs.Job.{Job}
use Rattle.mb_mailbox.specs.declared.crew.jobs.Job.TheVariants as job
use Rattle.mb_mailbox.specs.declared.crew.jobs.PollJob.{PollJob}
use Rattle.mb_mailbox.specs.declared.crew.jobs.PutJob.{PutJob}

-- ---- jobs whose producers and consumers are issued
module _ {Z : Type 0} (m : MailboxView) where
  -- `ArePutJobs` still holds with one job more, that of the next producer and the next list
  pub put_jobs_more : (p n : ℕ) (vs : List (Vec ℕ Z)) (js : List (PutJob Z)) (v : Vec ℕ Z)
      (j : PutJob Z) → ArePutJobs m p vs js
      → n ≡ p + length js → j.producer ≡ new_producer m n → j.list ≡ v → ArePutJobs m p (vs ++ v ∷ []) (js ++ j ∷ [])
  put_jobs_more p n [] [] v j a e is list =
      (subst (λ (k : ℕ). j.producer ≡ new_producer m k) (omega (arith, e)) is, list, tt)
  put_jobs_more p n [] (i ∷ is) v j a e is' list = absurd a
  put_jobs_more p n (w ∷ ws) [] v j a e is list = absurd a
  put_jobs_more p n (w ∷ ws) (i ∷ js) v j a e is list =
      (a.0, a.1, put_jobs_more (suc p) n ws js v j a.2 (omega (arith, e)) is list)

  -- `ArePollJobs` still holds with one job more, that of the next consumer
  pub poll_jobs_more : {R : Type 0} (h : HubView) (js : List (PollJob R Z)) (j : PollJob R Z) → ArePollJobs m h js
      → IsNewConsumer m (with_consumers js h) j.consumer → ArePollJobs m h (js ++ j ∷ [])
  poll_jobs_more h [] j a new = (new, tt)
  poll_jobs_more h (i ∷ js) j a new = (a.0, poll_jobs_more (with_consumer h) js j a.1 new)

module _ {R Z : Type 0} (m : MailboxView) (h was now : HubView) where
  -- `ArePutsIssued` still holds after the hub has issued one more producer, for one more list
  pub puts_issued_more : (vs : List (Vec ℕ Z)) (js : List (Job R Z)) (v : Vec ℕ Z) (j : PutJob Z)
      → ArePutsIssued m vs js h was → length was.puts ≡ length h.puts + length js
      → j.producer ≡ new_producer m (length was.puts) → j.list ≡ v → now ≡ with_producer was
      → ArePutsIssued m (vs ++ v ∷ []) (js ++ job.Put j ∷ []) h now
  puts_issued_more vs js v j g count is list e =
      let each = ap length g.whole ∙ length-map g.puts job.Put in
      record {
        puts = g.puts ++ j ∷ [];
        whole = ap (λ l. l ++ job.Put j ∷ []) g.whole ∙ sym (map-append job.Put g.puts (j ∷ []));
        are = put_jobs_more m (length h.puts) (length was.puts) vs g.puts v j g.are (omega (arith, count, each)) is
            list;
        hub = e ∙ ap with_producer g.hub ∙ sym (producers_snoc g.puts j h);
      }

  -- `ArePollsIssued` still holds after the hub has issued one more consumer, for one more source
  pub polls_issued_more : (rs : List R) (first js : List (Job R Z)) (r : R) (j : PollJob R Z)
      → ArePollsIssued m rs true first js h was → IsNewConsumer m was j.consumer → j.rng ≡ r → now ≡ with_consumer was
      → ArePollsIssued m (rs ++ r ∷ []) true first (js ++ job.Poll j ∷ []) h now
  polls_issued_more rs first js r j g new is e =
      let longer = length-append g.polls (j ∷ []) in
      let all = length-append rs (r ∷ []) in
      let few = g.few in
      record {
        polls = g.polls ++ j ∷ [];
        whole = ap (λ l. l ++ job.Poll j ∷ []) g.whole ∙ append_assoc first (map job.Poll g.polls) (job.Poll j ∷ [])
            ∙ ap (λ l. first ++ l) (sym (map-append job.Poll g.polls (j ∷ [])));
        are = poll_jobs_more m h g.polls j g.are (subst (λ (u : HubView). IsNewConsumer m u j.consumer) g.hub new);
        few = omega (arith, longer, all, few);
        all_sources = λ t. map-append (λ (k : PollJob R Z). k.rng) g.polls (j ∷ [])
            ∙ (λ i. g.all_sources refl i ++ is i ∷ []);
        hub = e ∙ ap with_consumer g.hub ∙ sym (consumers_snoc g.polls j h);
      }

  -- if `ArePollsIssued` holds for a beginning of these sources, it holds for all of them, but with `false` for `all`
  pub polls_issued_early : (rs rest all : List R) (first js : List (Job R Z)) → rs ++ rest ≡ all
      → ArePollsIssued m rs true first js h now → ArePollsIssued m all false first js h now
  polls_issued_early rs rest all first js whole g =
      let longer = sym (length-append rs rest) ∙ ap length whole in
      let few = g.few in
      record {
        polls = g.polls;
        whole = g.whole;
        are = g.are;
        few = omega (arith, longer, few);
        all_sources = λ t. absurd (cc);
        hub = g.hub;
      }

  -- if the hub has issued no consumer yet, `ArePollsIssued` holds for no sources
  abbrev pub no_polls_issued : (first : List (Job R Z)) → now ≡ h → ArePollsIssued m [] true first first h now
  no_polls_issued first e = record {
    polls = [];
    whole = sym (append-nil first);
    are = tt;
    few = omega arith;
    all_sources = λ t. refl;
    hub = e;
  }

  -- if the hub has issued producers, and then consumers, `AreGiven` holds
  abbrev pub both_issued : (vs : List (Vec ℕ Z)) (rs : List R) (all : Bool) (first js : List (Job R Z))
      → ArePutsIssued m vs first h was → ArePollsIssued m rs all first js was now → AreGiven m vs js h now
  both_issued vs rs all first js p q = record {
    puts = p.puts;
    polls = q.polls;
    whole = q.whole ∙ ap (λ l. l ++ map job.Poll q.polls) p.whole;
    are_puts = p.are;
    are_polls = subst (λ (u : HubView). ArePollJobs m u q.polls) p.hub q.are;
    hub = q.hub ∙ ap (with_consumers q.polls) p.hub;
  }

-- ---- what is taken back
-- the hub after the ends `ds` and then d were taken back is the hub after the list with d at its end was taken back
pub took_more : {Z : Type 0} (ds : List (Done Z)) (d : Done Z) (h was now : HubView) → was ≡ with_taken ds h
    → now ≡ with_taken_one d was → now ≡ with_taken (ds ++ d ∷ []) h
took_more [] d h was now e is = is ∙ ap (with_taken_one d) e
took_more (c ∷ ds) d h was now e is = took_more ds d (with_taken_one c h) was now e is

-- ---- producers' jobs come first
module _ {R Z : Type 0} where
  -- if producers' jobs come first in a list, they do so in its first job alone, and by `first_more` in the rest of it
  pub first_of : (n : ℕ) (j : Job R Z) (js : List (Job R Z)) → ArePutsFirst n (j ∷ js) → ArePutsFirst n (j ∷ [])
  first_of zero (job.Put j) js a = absurd a
  first_of (suc n) (job.Put j) js a = tt
  first_of zero (job.Poll j) js a = tt
  first_of (suc n) (job.Poll j) js a = absurd a

  pub first_more : (n k : ℕ) (j : Job R Z) (js : List (Job R Z)) → k ≡ n - 1 → ArePutsFirst n (j ∷ js)
      → ArePutsFirst k js
  first_more zero k (job.Put j) js e a = absurd a
  first_more (suc n) k (job.Put j) js e a = subst (λ (i : ℕ). ArePutsFirst i js) (omega (arith, e)) a
  first_more zero k (job.Poll j) js e a = subst (λ (i : ℕ). ArePutsFirst i js) (omega (arith, e)) a
  first_more (suc n) k (job.Poll j) js e a = absurd a

  -- producers' jobs come first in a list of producers' jobs and then consumers' jobs
  pub puts_first : (ps : List (PutJob Z)) (qs : List (PollJob R Z))
      → ArePutsFirst (length ps) (map job.Put ps ++ map job.Poll qs)
  puts_first [] [] = tt
  puts_first [] (q ∷ qs) = puts_first [] qs
  puts_first (p ∷ ps) qs = puts_first ps qs

-- ---- what is done and what is to come
-- what is done and what is to come still make up all, if one more is done and one less is to come
pub left_more : (was now before after all : ℕ) → was + before ≡ all → now ≡ was + 1
    → after + 1 ≡ before → now + after ≡ all
left_more was now before after all e one step = omega (arith, e, one, step)

-- if none is to come, all are done
pub left_none : (done left all : ℕ) → done + left ≡ all → left ≡ 0 → done ≡ all
left_none done left all e none = omega (arith, e, none)

-- if there is room for all and the room stays the same, there still is room for all
pub room_still : (all was now : ℕ) → all ≤ was → now ≡ was → all ≤ now
room_still all was now few same = omega (arith, few, same)

-- ---- a sum that is cut off at a bound
-- if a sum is cut off at a bound after each element, the outcome is the whole sum, cut off once
pub full_more : {X : Type 0} (f : X → ℕ) (most was now : ℕ) (xs : List X) (x : X) → was ≡ min most (sum_by f xs)
    → now ≡ min (was + f x) most → now ≡ min most (sum_by f (xs ++ x ∷ []))
full_more f most was now xs x e is =
    let whole = sum_by-append f xs (x ∷ []) in
    let last = sum_by-cons f x [] in
    omega (arith, e, is, whole, last)

-- ---- accesses with a budget for each call
-- if accesses are at most the budget for each call so far, they still are after one call more of at most the budget
pub budget_more : (budget call base old new : ℕ) → 1 ≤ call → old ≤ base + budget * (call - 1) → new ≤ old + budget
    → new ≤ base + budget * (call + 1 - 1)
budget_more budget call base old new first was step =
    let next : call + 1 - 1 ≡ suc (call - 1) = omega (arith, first) in
    let more = ap (λ (n : ℕ). budget * n) next ∙ mul-suc budget (call - 1) in
    omega (arith, was, step, more)

-- ---- whether the run is aborted
-- if neither the ends before nor this one say that the run is aborted, none does
on_yet : {X : Type 0} (f : X → Bool) (was aborted : Bool) (xs : List X) (x : X)
    → (was ≡ false → All (λ x. f x ≡ false) xs) → f x ≡ aborted
    → (was || aborted) ≡ false → All (λ x. f x ≡ false) (xs ++ x ∷ [])
on_yet f true aborted xs x e is h = absurd (cc)
on_yet f false true xs x e is h = absurd (cc)
on_yet f false false xs x e is h = All-push (λ x. f x ≡ false) xs x (e refl) is

-- if the loop's `aborted` is still false, no end up to this one says that the run is aborted
pub on_more : {X : Type 0} (f : X → Bool) (was now : Bool) (xs : List X) (x : X)
    → (was ≡ false → All (λ x. f x ≡ false) xs)
    → now ≡ (was || f x) → now ≡ false → All (λ x. f x ≡ false) (xs ++ x ∷ [])
on_more f was now xs x e is h = on_yet f was (f x) xs x e refl (sym is ∙ h)

-- a list with one more at its end is not empty
pub some_seen : {X : Type 0} (xs : List X) (x : X) → 0 < length (xs ++ x ∷ [])
some_seen xs x = let all = length-append xs (x ∷ []) in omega (arith, all)

-- what holds of all elements holds of those before the last, and of the last
all_but_last : {X : Type 0} (P : X → Type 0) (xs : List X) (x : X) → All P (xs ++ x ∷ []) → All P xs × P x
all_but_last P [] x a = (λ k d low. absurd (omega (arith, low)), All-head P x [] a)
all_but_last P (y ∷ ys) x a =
    let rest = all_but_last P ys x (All-tail P y (ys ++ x ∷ []) a)
    in (All-cons P y ys (All-head P y (ys ++ x ∷ []) a) rest.0, rest.1)

-- if `now` is `was || aborted`, and both of these are false, `now` is false
neither : (was aborted now : Bool) → now ≡ (was || aborted) → was ≡ false → aborted ≡ false → now ≡ false
neither was aborted now is a b = is ∙ (λ i. a i || b i)

-- if no end up to this one says that the run is aborted, the loop's `aborted` is still false
pub told_more : {X : Type 0} (f : X → Bool) (was now : Bool) (xs : List X) (x : X)
    → (All (λ x. f x ≡ false) xs → was ≡ false)
    → now ≡ (was || f x) → All (λ x. f x ≡ false) (xs ++ x ∷ []) → now ≡ false
told_more f was now xs x e is all =
    let each = all_but_last (λ x. f x ≡ false) xs x all in neither was (f x) now is (e each.0) each.1
