-- The lists that spell protocols, taken apart.
use Rattle.std.proofs.Common.{◌≡◌, ℕ, suc, List, sym, ap, subst, arith}
use Rattle.std.specs.Prelude.{◌≤◌, codes, if◌then◌else◌}
use Rattle.std.proofs.lemmas.Bool.{ne_eqb}
use Rattle.ipdl_tree.specs.Trees.{Located, word, number, literal, group, Forest, no_trees, tree}
use Rattle.ipdl_forms.specs.Lists.{tree_count, tree_at, parts_of, IsForm, IsLongForm}
use Rattle.ipdl_forms.specs.Protocols.{beside_first, ports_in, under_first}
use Rattle.ipdl_forms.specs.Widths.{SpellsPort, greatest_width}
use Rattle.ipdl_forms.proofs.Forms.{two_parts, form_of_many, form_of_two, form_of_word, form_of_width}

-- ---- par

-- what stands beside the first of three parts or more
pub beside_first-more : (pos at : ℕ) (a b c : Located) (ts : Forest) → group pos (tree (word pos (codes "par")) (tree b (tree c ts))) ≡ beside_first (group pos (tree (word at (codes "par")) (tree a (tree b (tree c ts)))))
beside_first-more pos at a b c ts =
    ap (λ many. if many then b else group pos (tree (word pos (codes "par")) (tree b (tree c ts)))) (sym (ne_eqb (suc (suc (suc (tree_count ts)))) 2 (λ same. omega (arith, same))))

-- a list of two parts, or of more
pub form_of_parallel : (P Q : Located → Type 0) → ((pos at : ℕ) (a b : Located) → Q b → P (group pos (tree (word at (codes "par")) (tree a (tree b no_trees))))) → ((pos at : ℕ) (a b c : Located) (ts : Forest) → Q (group pos (tree (word pos (codes "par")) (tree b (tree c ts)))) → P (group pos (tree (word at (codes "par")) (tree a (tree b (tree c ts)))))) → (t : Located) → IsLongForm (codes "par") 2 t → Q (beside_first t) → P t
form_of_parallel P Q of_two of_more t form =
    form_of_many (codes "par") (λ u. Q (beside_first u) → P u) go t form
  where
    go : (pos at : ℕ) (a b : Located) (ts : Forest) → Q (beside_first (group pos (tree (word at (codes "par")) (tree a (tree b ts))))) → P (group pos (tree (word at (codes "par")) (tree a (tree b ts))))
    go pos at a b no_trees beside = of_two pos at a b beside
    go pos at a b (tree c ts) beside =
        of_more pos at a b c ts (subst Q (sym (beside_first-more pos at a b c ts)) beside)

-- ---- new

-- the first of some ports
form_of_ports : (c : List ℕ) (w : ℕ) (P : Located → Type 0) → ((pos : ℕ) (d : Located) (ds : Forest) → SpellsPort c w d → P (group pos (tree d ds))) → (x : Located) → SpellsPort c w (tree_at 0 (parts_of x)) → P x
form_of_ports c w P make (word pos name) port = absurd (omega (arith, port.0))
form_of_ports c w P make (number pos n) port = absurd (omega (arith, port.0))
form_of_ports c w P make (literal pos bits) port = absurd (omega (arith, port.0))
form_of_ports c w P make (group pos no_trees) port = absurd (omega (arith, port.0))
form_of_ports c w P make (group pos (tree d ds)) port = make pos d ds port

-- what stands under the first of two ports or more
pub under_first-more : (pos at from : ℕ) (d e : Located) (ds : Forest) (y : Located) → group pos (tree (word pos (codes "new")) (tree (group pos (tree e ds)) (tree y no_trees))) ≡ under_first (group pos (tree (word at (codes "new")) (tree (group from (tree d (tree e ds))) (tree y no_trees))))
under_first-more pos at from d e ds y =
    ap (λ many. if many then y else group pos (tree (word pos (codes "new")) (tree (group pos (tree e ds)) (tree y no_trees)))) (sym (ne_eqb (suc (suc (tree_count ds))) 1 (λ same. omega (arith, same))))

-- a list of one port, or of more
pub form_of_hiding : (c : List ℕ) (w : ℕ) (P Q : Located → Type 0) → ((pos at from : ℕ) (d y : Located) → SpellsPort c w d → Q y → P (group pos (tree (word at (codes "new")) (tree (group from (tree d no_trees)) (tree y no_trees))))) → ((pos at from : ℕ) (d e : Located) (ds : Forest) (y : Located) → SpellsPort c w d → Q (group pos (tree (word pos (codes "new")) (tree (group pos (tree e ds)) (tree y no_trees)))) → P (group pos (tree (word at (codes "new")) (tree (group from (tree d (tree e ds))) (tree y no_trees))))) → (t : Located) → IsForm (codes "new") 2 t → SpellsPort c w (tree_at 0 (ports_in t)) → Q (under_first t) → P t
form_of_hiding c w P Q of_one of_more t form =
    form_of_two (codes "new") (λ u. SpellsPort c w (tree_at 0 (ports_in u)) → Q (under_first u) → P u) go t form
  where
    go : (pos at : ℕ) (x y : Located) → SpellsPort c w (tree_at 0 (parts_of x)) → Q (under_first (group pos (tree (word at (codes "new")) (tree x (tree y no_trees))))) → P (group pos (tree (word at (codes "new")) (tree x (tree y no_trees))))
    go pos at x y port =
        form_of_ports c w (λ z. Q (under_first (group pos (tree (word at (codes "new")) (tree z (tree y no_trees))))) → P (group pos (tree (word at (codes "new")) (tree z (tree y no_trees))))) (ports pos at y) x port
      where
        ports : (pos at : ℕ) (y : Located) (from : ℕ) (d : Located) (ds : Forest) → SpellsPort c w d → Q (under_first (group pos (tree (word at (codes "new")) (tree (group from (tree d ds)) (tree y no_trees))))) → P (group pos (tree (word at (codes "new")) (tree (group from (tree d ds)) (tree y no_trees))))
        ports pos at y from d no_trees port under = of_one pos at from d y port under
        ports pos at y from d (tree e ds) port under =
            of_more pos at from d e ds y port (subst Q (sym (under_first-more pos at from d e ds y)) under)

-- a port
pub form_of_port : (c : List ℕ) (w : ℕ) (P : Located → Type 0) → ((pos at from : ℕ) → w ≤ greatest_width → P (group pos (tree (word at c) (tree (number from w) no_trees)))) → (t : Located) → SpellsPort c w t → P t
form_of_port c w P make (word pos name) port = absurd (omega (arith, port.0))
form_of_port c w P make (number pos n) port = absurd (omega (arith, port.0))
form_of_port c w P make (literal pos bits) port = absurd (omega (arith, port.0))
form_of_port c w P make (group pos ts) port = go ts port
  where
    go : (us : Forest) → SpellsPort c w (group pos us) → P (group pos us)
    go us port = two_parts (λ vs. SpellsPort c w (group pos vs) → P (group pos vs)) (λ a b both. form_of_word c (λ x. P (group pos (tree x (tree b no_trees)))) (λ at. form_of_width w (λ x. P (group pos (tree (word at c) (tree x no_trees)))) (λ from least. make pos at from least) b both.2) a both.1) us port.0 port
