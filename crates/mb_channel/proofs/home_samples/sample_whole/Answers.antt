use Rattle.std.proofs.Common.{ℕ, zero, suc, Bool, List, [], ◌∷◌, ◌≡◌, ◌≢◌, ◌≤◌, ◌∙◌, if◌then◌else◌, length}
use Rattle.std.proofs.Common.{refl, sym, ap, subst, inl, inr, arith, eq-eqb, ne_eqb}
use mathlib.Core.Option.{some, some-injective, some-ne-none}
use lib.ListN.{get_elem?}
use Rattle.mb_channel.specs.Types.{Home}
use Rattle.mb_channel.specs.LifeSamples.{one_got, one_sent, two_sent, visit}
use Rattle.mb_channel.specs.HomeSamples.{all_visits, last_of_two}
use Rattle.mb_channel.specs.Homes.{AreLed, IsNone, IsOver, IsWhole, Made, came_back, first_view, how_many, made_by, made_in, past_of}
use Rattle.mb_channel.proofs.Views.{once_more}
use Rattle.mb_channel.proofs.home_samples.sample_whole.Goals as goal

hubs_know : (h g : Home ℕ) → came_back h ≡ one_got ∷ two_sent ∷ [] → came_back g ≡ one_sent ∷ []
    → (k : ℕ) (x : Home ℕ) → get_elem? (h ∷ g ∷ []) k ≡ some x → came_back x ≡ made_in k all_visits
hubs_know h g a b zero x at = subst (λ y. came_back y ≡ one_got ∷ two_sent ∷ []) (some-injective h x at) a
hubs_know h g a b (suc zero) x at = subst (λ y. came_back y ≡ one_sent ∷ []) (some-injective g x at) b
hubs_know h g a b (suc (suc k)) x at = absurd (some-ne-none x (sym at))

none_behind : (k : ℕ) → 2 ≤ k → made_in k all_visits ≡ []
none_behind k le =
    let one = ne_eqb 1 k (λ q. omega (arith, le, q)) in
    let none_ = ne_eqb 0 k (λ q. omega (arith, le, q)) in
    λ i. if one i then one_sent ∷ (if none_ i then one_got ∷ (if none_ i then two_sent ∷ [] else [])
    else (if none_ i then two_sent ∷ [] else []))
    else (if none_ i then one_got ∷ (if none_ i then two_sent ∷ [] else [])
    else (if none_ i then two_sent ∷ [] else []))

nobody_else : (n : ℕ) → 0 ≢ n → IsNone n last_of_two.ended → made_by n all_visits ≡ []
nobody_else n ne none_ =
    let first = ne_eqb 0 n ne in
    let second = ne_eqb 1 n none_.0 in
    λ i. if first i then visit 1 one_sent ∷ (if second i then visit 0 one_got ∷ (if first i then visit 0 two_sent ∷ []
    else []) else (if first i then visit 0 two_sent ∷ [] else []))
    else (if second i then visit 0 one_got ∷ (if first i then visit 0 two_sent ∷ [] else [])
    else (if first i then visit 0 two_sent ∷ [] else []))

once_each : (n : ℕ) → how_many n (past_of last_of_two ∷ last_of_two.ended) ≤ 1
once_each n = once_more (past_of last_of_two) n (how_many n last_of_two.ended)
    (how_many n (past_of last_of_two ∷ last_of_two.ended)) refl
    (once_more (record { number = 1; name = 0; visits = visit 0 one_got ∷ [] }) n 0
    (how_many n last_of_two.ended) refl (omega arith) (λ _. refl))
    (λ q. ap (λ i. how_many i last_of_two.ended) (sym q))

leads_two : (h g : Home ℕ) → IsOver h → AreLed (h ∷ g ∷ [])
leads_two h g over zero lt = (h, refl, over)
leads_two h g over (suc j) lt = absurd (omega (arith, lt))

pub returns-clause-two : goal.returns-clause-two
returns-clause-two c h g over a b out_h out_g = record {
  all = all_visits;
  leads = leads_two h g over;
  agrees = record {
    here = hubs_know h g a b;
    none_behind = none_behind;
    turn = (inl refl, (inr (λ j lt. absurd (omega (arith, lt))), (inl refl, tt)));
  };
  own = (refl, (omega arith, (omega arith, tt)));
  others = ((refl, (1, (omega arith, tt))), tt);
  once = once_each;
  nobody = nobody_else;
  empty = λ _. (out_h, (out_g, tt));
}

pub returns-clause-open_ : goal.returns-clause-open_
returns-clause-open_ c h g no_ w = let o = w.leads 0 (omega arith) in
    no_ (subst (λ x. IsOver x) (sym (some-injective h o.0 o.1)) o.2)

pub returns-clause-twice : goal.returns-clause-twice
returns-clause-twice c hs w = let o = w.once 1 in absurd (omega (arith, o))

pub returns-clause-out : goal.returns-clause-out
returns-clause-out c h g one w = let none_ = (w.empty refl).0 in absurd (omega arith)

none_made : (all : List (Made ℕ)) → ((n : ℕ) → made_by n all ≡ []) → all ≡ []
none_made [] each = refl
none_made (m ∷ ms) each =
    let y = ap (λ (b : Bool). if b then m.visit ∷ made_by m.by ms else made_by m.by ms) (eq-eqb m.by m.by refl) in
    let n = ap length (sym y ∙ each m.by) in absurd (omega (arith, n))

nobody_did : (hs : List (Home ℕ)) (w : IsWhole {T = ℕ} first_view hs) → (n : ℕ) → made_by n w.all ≡ []
nobody_did hs w zero = sym w.own.0
nobody_did hs w (suc n) = w.nobody (suc n) (λ e. absurd (omega (arith, e))) tt

pub returns-clause-stranger : goal.returns-clause-stranger
returns-clause-stranger c h e w =
    let all = none_made w.all (nobody_did (h ∷ []) w) in
    let n = ap length (sym e ∙ (w.agrees.here 0 h refl ∙ ap (made_in 0) all)) in absurd (omega (arith, n))
