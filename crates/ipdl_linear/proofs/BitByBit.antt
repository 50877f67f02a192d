-- Operations on forms bit by bit, as they are made one after the other.
use Rattle.std.proofs.Common.{◌≡◌, ℕ, suc, ◌+◌, ◌<◌, ◌≤◌, List, [], ◌∷◌, ◌++◌, Some, length, take, get_or, refl, sym, subst, arith}
use Rattle.std.specs.Prelude.{min, slice_get}
use Rattle.ipdl_linear.proofs.FormLists.{AllStand-kept, length-AllStand, AllStand-at, AllStand-push, AllStand-whole, bitwise-at, length-bitwise}
use Rattle.ipdl_linear.proofs.Growing.{IsGrowth-then, FormStands-one}
use Rattle.ipdl_linear.proofs.Standing.{FormStands-kept}
use Rattle.ipdl_linear.specs.Entries.{Entry, FormStands, AllStand, IsNumbering, Keeps, IsGrowth, Combines}
use Rattle.ipdl_linear.specs.LinearForms.{Form, one_form, plus, times, choice, bitwise, choices}
use Rattle.ipdl_linear.specs.Operations.{IsOperation}
use Rattle.ipdl_linear.specs.declared.bitwise.Operator.{Operator}
use Rattle.ipdl_linear.specs.declared.bitwise.Operator.TheVariants.{Plus, Times, Negation, Choice}

pub IsOperation-kept : (t u : List Entry) (operator : Operator) (op : Form → Form → Form) → Keeps t u → IsOperation t operator op → IsOperation u operator op
IsOperation-kept t u Plus op keeps h = h
IsOperation-kept t u Times op keeps h = h
IsOperation-kept t u Negation op keeps h = h
IsOperation-kept t u (Choice n) op keeps h = (h.0, FormStands-kept t u keeps h.0 n h.1, h.2)

-- the operation on the first forms is made
pub record IsBitwiseUpTo (t u : List Entry) (operator : Operator) (ps qs ns : List ℕ) (i : ℕ) : Type 0 where
  pub growth : IsGrowth t u
  pub stand : (op : Form → Form → Form) → IsNumbering t → IsOperation t operator op → (fs gs : List Form) → AllStand t ps fs → AllStand t qs gs → AllStand u ns (take i (bitwise op fs gs))

pub IsBitwiseUpTo-start : (t : List Entry) (operator : Operator) (ps qs : List ℕ) → IsBitwiseUpTo t t operator ps qs [] 0
IsBitwiseUpTo-start t operator ps qs = record {
  growth = record { numbering = λ (numbers : IsNumbering t). numbers; keeps = λ k e h. h };
  stand = λ op numbers is fs gs h g. tt;
}

pub IsBitwiseUpTo-next : (t u v : List Entry) (operator : Operator) (ps qs ns : List ℕ) (i n : ℕ) → i < min (length ps) (length qs) → IsBitwiseUpTo t u operator ps qs ns i → IsGrowth u v →
    ((op : Form → Form → Form) → IsOperation u operator op → Combines op u v (get_or ps i 0) (get_or qs i 0) n) → IsBitwiseUpTo t v operator ps qs (ns ++ n ∷ []) (i + 1)
IsBitwiseUpTo-next t u v operator ps qs ns i n within so_far growth made = record {
  growth = IsGrowth-then t u v so_far.growth growth;
  stand = λ op numbers is fs gs h g.
      let f = AllStand-at t ps fs i h (omega arith) in
      let k = AllStand-at t qs gs i g (omega arith) in
      let here = made op (IsOperation-kept t u operator op so_far.growth.keeps is) (so_far.growth.numbering numbers) f.0 k.0
      (FormStands-kept t u so_far.growth.keeps f.0 (get_or ps i 0) f.2) (FormStands-kept t u so_far.growth.keeps k.0 (get_or qs i 0) k.2) in
      let next : suc i ≡ i + 1 = omega arith in
      subst (λ m. AllStand v (ns ++ n ∷ []) (take m (bitwise op fs gs))) next
      (AllStand-push v ns (bitwise op fs gs) i n (op f.0 k.0) (AllStand-kept u v ns _ growth.keeps (so_far.stand op numbers is fs gs h g)) (bitwise-at op fs gs i f.0 k.0 f.1 k.1) here);
}

pub bitwise-stand : (t u : List Entry) (operator : Operator) (ps qs ns : List ℕ) (i : ℕ) → min (length ps) (length qs) ≤ i → IsBitwiseUpTo t u operator ps qs ns i →
    (op : Form → Form → Form) → IsNumbering t → IsOperation t operator op → (fs gs : List Form) → AllStand t ps fs → AllStand t qs gs → AllStand u ns (bitwise op fs gs)
bitwise-stand t u operator ps qs ns i end all op numbers is fs gs h g =
    let a = length-AllStand t ps fs h in let b = length-AllStand t qs gs g in let c = length-bitwise op fs gs in
    AllStand-whole u ns (bitwise op fs gs) i (omega arith) (all.stand op numbers is fs gs h g)

-- the steps of a choice
pub choice-combines : (t u v w : List Entry) (test p q sum part n : ℕ) → IsGrowth t u → IsGrowth u v →
    Combines plus t u p q sum → Combines times u v test sum part → Combines plus v w q part n → (c : Form) → FormStands t test c → Combines (choice c) t w p q n
choice-combines t u v w test p q sum part n first second add multiply add_again c h numbers f g stands_f stands_g =
    let on_u = first.numbering numbers in
    let in_v : (x : Form) (m : ℕ) → FormStands t m x → FormStands v m x = (λ x m s. FormStands-kept u v second.keeps x m (FormStands-kept t u first.keeps x m s)) in
    add_again (second.numbering on_u) g (times c (plus f g)) (in_v g q stands_g)
    (multiply on_u c (plus f g) (FormStands-kept t u first.keeps c test h) (add numbers f g stands_f stands_g))

-- ---- what each operator does

module _ (t u : List Entry) (operator : Operator) where
  pub plus-operation : (p q n : ℕ) → operator ≡ Plus → Combines plus t u p q n → (op : Form → Form → Form) → IsOperation t operator op → Combines op t u p q n
  plus-operation p q n is made op h =
      let same = subst (λ o. IsOperation t o op) is h in subst (λ o. Combines o t u p q n) (sym same) made

  pub times-operation : (p q n : ℕ) → operator ≡ Times → Combines times t u p q n → (op : Form → Form → Form) → IsOperation t operator op → Combines op t u p q n
  times-operation p q n is made op h =
      let same = subst (λ o. IsOperation t o op) is h in subst (λ o. Combines o t u p q n) (sym same) made

  pub negation-operation : (p q n : ℕ) → operator ≡ Negation → Combines plus t u p 2 n → (op : Form → Form → Form) → IsOperation t operator op → Combines op t u p q n
  negation-operation p q n is made op h =
      let same = subst (λ o. IsOperation t o op) is h in
      subst (λ o. Combines o t u p q n) (sym same) (λ numbers f g stands_f stands_g. made numbers f one_form stands_f (FormStands-one t numbers))

  pub choice-operation : (test p q n : ℕ) → operator ≡ Choice test → ((c : Form) → FormStands t test c → Combines (choice c) t u p q n) → (op : Form → Form → Form) → IsOperation t operator op → Combines op t u p q n
  choice-operation test p q n is made op h =
      let c = subst (λ o. IsOperation t o op) is h in subst (λ o. Combines o t u p q n) (sym c.2) (made c.0 c.1)

-- by the first of the tests
pub choices-stand : (t u : List Entry) (tests ps qs ns : List ℕ) (test : ℕ) → slice_get tests 0 ≡ Some test →
    ((op : Form → Form → Form) → IsNumbering t → IsOperation t (Choice test) op → (fs gs : List Form) → AllStand t ps fs → AllStand t qs gs → AllStand u ns (bitwise op fs gs)) →
    IsNumbering t → (ts fs gs : List Form) → AllStand t tests ts → AllStand t ps fs → AllStand t qs gs → AllStand u ns (choices ts fs gs)
choices-stand t u [] ps qs ns test first made numbers ts fs gs h i j = cc
choices-stand t u (m ∷ tests) ps qs ns test first made numbers [] fs gs h i j = absurd h
choices-stand t u (m ∷ tests) ps qs ns test first made numbers (c ∷ ts) fs gs h i j =
    let same : m ≡ test = cc in made (choice c) numbers (c, subst (λ n. FormStands t n c) same h.0, refl) fs gs i j
