-- Words that were read as a table, a shape, numbers or the first line of a replay script spell what was read.
use Rattle.std.proofs.Common.{◌≡◌, ℕ, ◌<◌, ◌^◌, Bool, true, false, cond, List, [], ◌∷◌, codes, Option, Some, None, Result, Ok, Err, refl, ap, ◌∙◌, subst, ok_or, decimal, bytes_eq}
use Rattle.std.proofs.lemmas.Slice.Eq.{bytes_eq-Decides}
use Rattle.mb_quorum.specs.declared.table.TableName.{TableName, TheVariants.Unary, TheVariants.Bits, TheVariants.Middle}
use Rattle.mb_world.specs.declared.setup.SetupFault.{SetupFault}
use Rattle.mb_claim.specs.Rows.{plain}
use Rattle.mb_claim.specs.declared.shape.Shape.{Shape}
use Rattle.mb_world.specs.Setups.{setup_refusal}
use Rattle.mb_script.specs.Vocabulary.{Fault, SetupLine, made_from, number_at, one_number, two_numbers, three_numbers, made_of, sizes_of, setup_of, Sizes, made_for, setup_words, ◌>>=◌, shape_named}
use Rattle.mb_script.specs.Vocabulary.{shape_with, shape_words, table_name, table_named, has_empty}
use Rattle.mb_script.specs.declared.fault.Fault.TheVariants.{BadLine, NoSetup}
use Rattle.mb_script.proofs.Bound.{avoided, bind_ok, ok_is, passed, some_from}
use Rattle.mb_script.proofs.Spelled.{number_takes}

-- ---- words and numbers
-- if the tests u, b and m, whether a word is one of the three names, choose a table, the word is that table's name
pub table_takes : (word : List ℕ) (t : TableName) (u b m : Bool)
    → bytes_eq word (codes "unary") ≡ u → bytes_eq word (codes "bits") ≡ b → bytes_eq word (codes "middle") ≡ m
    → cond u (Some Unary) (cond b (Some Bits) (cond m (Some Middle) None)) ≡ Some t → word ≡ table_name t
table_takes word Unary true b m p q r e = (bytes_eq-Decides word (codes "unary")).0 p
table_takes word Bits true b m p q r e = absurd (cc)
table_takes word Middle true b m p q r e = absurd (cc)
table_takes word Bits false true m p q r e = (bytes_eq-Decides word (codes "bits")).0 q
table_takes word Unary false true m p q r e = absurd (cc)
table_takes word Middle false true m p q r e = absurd (cc)
table_takes word Middle false false true p q r e = (bytes_eq-Decides word (codes "middle")).0 r
table_takes word Unary false false true p q r e = absurd (cc)
table_takes word Bits false false true p q r e = absurd (cc)
table_takes word t false false false p q r e = absurd (cc)

-- if the tests a, b and c, whether a word is one of the three words of shapes, choose a shape, it is that shape's word
word_takes : (word : List ℕ) (f : Shape) (a b c : Bool)
    → bytes_eq word (codes "fast") ≡ a → bytes_eq word (codes "last") ≡ b
    → bytes_eq word (codes "fastlast") ≡ c
    → cond a (Some (shape_with true false)) (cond b (Some (shape_with false true))
    (cond c (Some (shape_with true true)) None)) ≡ Some f
    → word ∷ [] ≡ shape_words f
word_takes word f true b c p q r e =
    let same : shape_with true false ≡ f = cc in
    let is = (bytes_eq-Decides word (codes "fast")).0 p in
    subst (λ g. word ∷ [] ≡ shape_words g) same (ap (λ (w : List ℕ). w ∷ []) is)
word_takes word f false true c p q r e =
    let same : shape_with false true ≡ f = cc in
    let is = (bytes_eq-Decides word (codes "last")).0 q in
    subst (λ g. word ∷ [] ≡ shape_words g) same (ap (λ (w : List ℕ). w ∷ []) is)
word_takes word f false false true p q r e =
    let same : shape_with true true ≡ f = cc in
    let is = (bytes_eq-Decides word (codes "fastlast")).0 r in
    subst (λ g. word ∷ [] ≡ shape_words g) same (ap (λ (w : List ℕ). w ∷ []) is)
word_takes word f false false false p q r e = absurd (cc)

-- words that were read as a shape are that shape's words
shape_takes : (words : List (List ℕ)) (f : Shape) → shape_named words ≡ Some f
    → words ≡ shape_words f
shape_takes [] f e =
    let same : plain ≡ f = cc in
    subst (λ g. [] ≡ shape_words g) same refl
shape_takes (word ∷ []) f e = word_takes word f _ _ _ refl refl refl e
shape_takes (word ∷ other ∷ words) f e = absurd (cc)

-- a word that was read as a number is the decimal of that number, which is below 2^64
at_takes : (n : ℕ) (w : List ℕ) (x : ℕ) → number_at n w ≡ Ok x → (w ≡ decimal x) × (x < 2 ^ 64)
at_takes n w x e = number_takes w x (some_from _ _ _ e)

-- words that were read as one number are the decimal of that number alone, which is below 2^64
pub one_takes : (n : ℕ) (ws : List (List ℕ)) (x : ℕ) → one_number n ws ≡ Ok x → (ws ≡ decimal x ∷ []) × (x < 2 ^ 64)
unfolding one_number
one_takes n [] x e = absurd (cc)
one_takes n (a ∷ b ∷ ws) x e = absurd (cc)
one_takes n (a ∷ []) x e = let t = at_takes n a x e in (ap (λ (w : List ℕ). w ∷ []) t.0, t.1)

-- words that were read as two numbers are the decimals of these numbers, which are below 2^64
pub two_takes : (n : ℕ) (ws : List (List ℕ)) (x : ℕ × ℕ) → two_numbers n ws ≡ Ok x
    → (ws ≡ decimal x.0 ∷ decimal x.1 ∷ []) × (x.0 < 2 ^ 64) × (x.1 < 2 ^ 64)
unfolding two_numbers
two_takes n [] x e = absurd (cc)
two_takes n (a ∷ []) x e = absurd (cc)
two_takes n (a ∷ b ∷ c ∷ ws) x e = absurd (cc)
two_takes n (a ∷ b ∷ []) x e =
    let f = bind_ok (number_at n a) (λ p. number_at n b >>= (λ q. Ok (p, q))) x e in
    let g = bind_ok (number_at n b) (λ q. Ok (f.0, q)) x f.2 in
    let p = at_takes n a f.0 f.1 in
    let q = at_takes n b g.0 g.1 in
    let made : ℕ × ℕ = (f.0, g.0) in
    subst (λ (y : ℕ × ℕ). (a ∷ b ∷ [] ≡ decimal y.0 ∷ decimal y.1 ∷ []) × (y.0 < 2 ^ 64) × (y.1 < 2 ^ 64))
    (ok_is made x g.2)
    (ap (λ (w : List ℕ). w ∷ b ∷ []) p.0 ∙ ap (λ (w : List ℕ). decimal f.0 ∷ w ∷ []) q.0, p.1, q.1)

-- three numbers
abbrev Three : Type 0
Three = ℕ × ℕ × ℕ

-- words that were read as three numbers are the decimals of these numbers, which are below 2^64
pub three_takes : (n : ℕ) (ws : List (List ℕ)) (x : Three) → three_numbers n ws ≡ Ok x
    → (ws ≡ decimal x.0 ∷ decimal x.1 ∷ decimal x.2 ∷ []) × (x.0 < 2 ^ 64) × (x.1 < 2 ^ 64) × (x.2 < 2 ^ 64)
unfolding three_numbers
three_takes n [] x e = absurd (cc)
three_takes n (a ∷ []) x e = absurd (cc)
three_takes n (a ∷ b ∷ []) x e = absurd (cc)
three_takes n (a ∷ b ∷ c ∷ d ∷ ws) x e = absurd (cc)
three_takes n (a ∷ b ∷ c ∷ []) x e =
    let f = bind_ok (number_at n a) (λ p. number_at n b >>= (λ q. number_at n c >>= (λ r. Ok (p, q, r)))) x e in
    let g = bind_ok (number_at n b) (λ q. number_at n c >>= (λ r. Ok (f.0, q, r))) x f.2 in
    let h = bind_ok (number_at n c) (λ r. Ok (f.0, g.0, r)) x g.2 in
    let p = at_takes n a f.0 f.1 in
    let q = at_takes n b g.0 g.1 in
    let r = at_takes n c h.0 h.1 in
    let made : Three = (f.0, g.0, h.0) in
    subst (λ (y : Three). (a ∷ b ∷ c ∷ [] ≡ decimal y.0 ∷ decimal y.1 ∷ decimal y.2 ∷ [])
    × (y.0 < 2 ^ 64) × (y.1 < 2 ^ 64) × (y.2 < 2 ^ 64))
    (ok_is made x h.2) (
      ap (λ (w : List ℕ). w ∷ b ∷ c ∷ []) p.0 ∙ ap (λ (w : List ℕ). decimal f.0 ∷ w ∷ c ∷ []) q.0
          ∙ ap (λ (w : List ℕ). decimal f.0 ∷ decimal g.0 ∷ w ∷ []) r.0,
      p.1,
      q.1,
      r.1,
    )

-- ---- the first line
-- the six definitions from here on say what is left to be read after each step of `sizes_of`, the last step first
abbrev with_pairs : ℕ → ℕ → ℕ → Shape → TableName → ℕ → Result SetupLine Fault
with_pairs p c m f t k = made_of (setup_refusal p c m k) (made_from f p c m k t)

abbrev with_cells : ℕ → ℕ → List ℕ → Shape → TableName → ℕ → Result SetupLine Fault
with_cells p c pairs f t m = number_at 1 pairs >>= with_pairs p c m f t

abbrev with_consumers : ℕ → List ℕ → List ℕ → Shape → TableName → ℕ → Result SetupLine Fault
with_consumers p cells pairs f t c = number_at 1 cells >>= with_cells p c pairs f t

abbrev with_producers : List ℕ → List ℕ → List ℕ → Shape → TableName → ℕ → Result SetupLine Fault
with_producers consumers cells pairs f t p = number_at 1 consumers >>= with_consumers p cells pairs f t

abbrev with_shape : List ℕ → List ℕ → List ℕ → List ℕ → TableName → Shape → Result SetupLine Fault
with_shape producers consumers cells pairs t f = number_at 1 producers >>= with_producers consumers cells pairs f t

abbrev with_table : List ℕ → List ℕ → List ℕ → List ℕ → List (List ℕ) → TableName → Result SetupLine Fault
with_table producers consumers cells pairs shape t =
    ok_or (shape_named shape) (BadLine 1) >>= with_shape producers consumers cells pairs t

-- if `made_of o x` is no fault, there is no reason o to refuse the setup, and the result y is x
made_takes : (o : Option SetupFault) (x y : SetupLine) → made_of o x ≡ Ok y → (o ≡ None) × (x ≡ y)
made_takes None x y e = (refl, ok_is x y e)
made_takes (Some f) x y e = absurd (cc)

-- a setup of sizes z is not refused, and a first line with these sizes says `made`
abbrev pub Sized : SetupLine → Sizes → Type 0
Sized made z = (setup_refusal z.producers z.consumers z.cells z.pairs ≡ None) × (made_for z ≡ made)

-- if the words after `setup` were read without a fault, they are the words of some sizes, which are not refused
sizes_take : (ws : List (List ℕ)) (made : SetupLine) → sizes_of ws ≡ Ok made
    → (z : Sizes) × (codes "setup" ∷ ws ≡ setup_words z) × Sized made z
unfolding sizes_of
sizes_take [] made e = absurd (cc)
sizes_take (a ∷ []) made e = absurd (cc)
sizes_take (a ∷ b ∷ []) made e = absurd (cc)
sizes_take (a ∷ b ∷ c ∷ []) made e = absurd (cc)
sizes_take (a ∷ b ∷ c ∷ d ∷ []) made e = absurd (cc)
sizes_take (producers ∷ consumers ∷ cells ∷ pairs ∷ name ∷ shape) made e =
    let t = bind_ok (ok_or (table_named name) (BadLine 1))
    (with_table producers consumers cells pairs shape) made e in
    let f = bind_ok (ok_or (shape_named shape) (BadLine 1))
    (with_shape producers consumers cells pairs t.0) made t.2 in
    let p = bind_ok (number_at 1 producers) (with_producers consumers cells pairs f.0 t.0) made f.2 in
    let c = bind_ok (number_at 1 consumers) (with_consumers p.0 cells pairs f.0 t.0) made p.2 in
    let m = bind_ok (number_at 1 cells) (with_cells p.0 c.0 pairs f.0 t.0) made c.2 in
    let k = bind_ok (number_at 1 pairs) (with_pairs p.0 c.0 m.0 f.0 t.0) made m.2 in
    let z : Sizes =
    record { producers = p.0; consumers = c.0; cells = m.0; pairs = k.0; table = t.0; shape = f.0 } in
    let sized = made_takes (setup_refusal p.0 c.0 m.0 k.0) (made_for z) made k.2 in
    let named = table_takes name t.0 _ _ _ refl refl refl (some_from _ _ _ t.1) in
    let shaped = shape_takes shape f.0 (some_from _ _ _ f.1) in
    let whole : codes "setup" ∷ producers ∷ consumers ∷ cells ∷ pairs ∷ name ∷ shape ≡ setup_words z =
    ap (λ (w : List ℕ). codes "setup" ∷ w ∷ consumers ∷ cells ∷ pairs ∷ name ∷ shape) (at_takes 1 producers p.0 p.1).0
    ∙ ap (λ (w : List ℕ). codes "setup" ∷ decimal p.0 ∷ w ∷ cells ∷ pairs ∷ name ∷ shape)
    (at_takes 1 consumers c.0 c.1).0
    ∙ ap (λ (w : List ℕ). codes "setup" ∷ decimal p.0 ∷ decimal c.0 ∷ w ∷ pairs ∷ name ∷ shape)
    (at_takes 1 cells m.0 m.1).0
    ∙ ap (λ (w : List ℕ). codes "setup" ∷ decimal p.0 ∷ decimal c.0 ∷ decimal m.0 ∷ w ∷ name
    ∷ shape) (at_takes 1 pairs k.0 k.1).0
    ∙ ap (λ (w : List ℕ). codes "setup" ∷ decimal p.0 ∷ decimal c.0 ∷ decimal m.0 ∷ decimal k.0 ∷ w ∷ shape) named
    ∙ ap (λ (ws : List (List ℕ)). codes "setup" ∷ decimal p.0 ∷ decimal c.0 ∷ decimal m.0
    ∷ decimal k.0 ∷ table_name t.0 ∷ ws) shaped in
    (z, whole, sized)

-- if a first line was read without a fault, it has the words of some sizes, which are not refused
pub setup_take : (ws : List (List ℕ)) (made : SetupLine) → setup_of ws ≡ Ok made → (z : Sizes)
    × (ws ≡ setup_words z) × Sized made z
unfolding setup_of
setup_take [] made e = absurd (cc)
setup_take (key ∷ ws) made e =
    let a = passed (bytes_eq key (codes "setup")) NoSetup
    (cond (has_empty ws) (Err (BadLine 1)) (sizes_of ws)) made e in
    let b = avoided (has_empty ws) (BadLine 1) (sizes_of ws) made a.1 in
    let c = sizes_take ws made b.1 in
    (c.0, ap (λ (w : List ℕ). w ∷ ws) ((bytes_eq-Decides key (codes "setup")).0 a.0) ∙ c.1, c.2)
