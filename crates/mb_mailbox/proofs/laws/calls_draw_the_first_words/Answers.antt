use Rattle.std.proofs.Common.{◌≡◌, ◌++◌, ℕ, List, [], ◌∷◌, map, sym, ap, ◌∙◌, subst}
use Rattle.std.proofs.lemmas.List.{map-append}
use Rattle.mb_mailbox.specs.Imports.{ClaimAccess, Stream, claim_accesses}
use Rattle.mb_mailbox.specs.Calls.{AreCalls, Call}
use Rattle.mb_mailbox.specs.Consumers.{ConsumerView}
use Rattle.mb_mailbox.specs.Steps.{AreDrawn, drawn_words}
use Rattle.mb_mailbox.proofs.laws.calls_draw_the_first_words.Goals as goal

-- if the words `ws` are drawn and then the words `vs`, all of them are drawn as one list
drawn_after : (s t u : Stream) (ws vs : List ℕ) → AreDrawn s ws t → AreDrawn t vs u → AreDrawn s (vs ++ ws) u
drawn_after s t u ws [] was now = subst (λ z. AreDrawn s ws z) (sym now) was
drawn_after s t u ws (v ∷ vs) was now = (now.0, drawn_after s t now.0 ws vs was now.1, now.2)

-- the random words of these accesses
abbrev words : List ClaimAccess → List ℕ
words done = map (λ a. a.step.turn.word) done

-- if a consumer has made no access to the claims before its calls, these draw the first words of the source
first_words : (from end budget : ℕ) (made : List Call) (s t : Stream) (old new : ConsumerView)
    → AreCalls from end budget made s t old new
    → old.seat.part ≡ [] → AreDrawn s (words new.seat.part) t
first_words from end budget [] s t old new calls none =
    let same : words new.seat.part ≡ [] = ap (λ (c : ConsumerView). words c.seat.part) calls.1 ∙ ap words none in
    subst (λ (ws : List ℕ). AreDrawn s ws t) (sym same) calls.0
first_words from end budget (c ∷ older) s t old new calls none =
    let u = calls.0 in
    let mid = calls.1 in
    let poll = calls.3.poll in
    let more : words new.seat.part ≡ drawn_words poll.accesses ++ words mid.seat.part =
    ap (λ z. words z.part) poll.done.seat ∙ map-append (λ (a : ClaimAccess). a.step.turn.word)
    (claim_accesses poll.accesses) mid.seat.part in
    subst (λ (ws : List ℕ). AreDrawn s ws t) (sym more)
    (drawn_after s u t (words mid.seat.part) (drawn_words poll.accesses)
    (first_words from end budget older s u old mid calls.2 none) poll.drawn)

pub returns : goal.returns
returns c = first_words
