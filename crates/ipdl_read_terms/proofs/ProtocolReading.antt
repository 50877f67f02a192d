-- The lists of a protocol, read part by part.
use Rattle.std.proofs.Common.{◌≡◌, ℕ, suc, ◌+◌, ◌-◌, ◌≤◌, ◌==◌, Bool, false, List, [], ◌∷◌, ◌++◌, length, refl, sym, ap, ◌∙◌, subst, arith}
use Rattle.std.specs.Prelude.{Option, Some, codes, nat_le}
use Rattle.std.proofs.lemmas.Bool.{le-leb}
use Rattle.ipdl_term.specs.Terms.{Protocol, parallel, hiding}
use Rattle.ipdl_tree.specs.declared.tree.Tree.{Tree}
use Rattle.ipdl_tree.specs.Trees.{Located, word, group, Forest, no_trees, tree}
use Rattle.ipdl_forms.specs.declared.fault.FormCause.TheVariants.{NotAForm}
use Rattle.ipdl_forms.specs.Counts.{counted, node_faults}
use Rattle.ipdl_forms.specs.Faults.{tested, form_fault}
use Rattle.ipdl_forms.specs.Lists.{tree_count}
use Rattle.ipdl_forms.specs.Protocols.{SpellsProtocol, par_shape, new_shape, protocol_count, protocols_count, hidden_faults, new_faults, protocol_faults, protocols_faults}
use Rattle.ipdl_read_terms.specs.Lists.{protocol_list_count, protocol_list_faults, beside_parts, under_ports}
use Rattle.ipdl_forms.specs.Scopes.{NameScope}
use Rattle.ipdl_forms.specs.Widths.{SpellsPort}
use Rattle.ipdl_read_terms.proofs.Counts.{counted_twice}
use Rattle.ipdl_forms.proofs.Faults.{clean-append}
use Rattle.ipdl_forms.proofs.Offsetless.{SpellsProtocol-offsetless}
use Rattle.ipdl_forms.proofs.ProtocolForms.{beside_first-more, under_first-more}

-- some trees, where the test for none fails
pub some_trees : (xs : List Tree) (b : Bool) → b ≡ (length xs == 0) → b ≡ false → 1 ≤ length xs
some_trees [] b is fails = cc
some_trees (x ∷ xs) b is fails = omega arith

-- ---- par

-- a part beside others
pub beside_part : (scope : NameScope) (p q : Protocol) (a b : Located) (ts : Forest) → SpellsProtocol scope p a → SpellsProtocol scope q (beside_parts b ts) → SpellsProtocol scope (parallel p q) (beside_parts a (tree b ts))
beside_part scope p q a b no_trees first second = ((refl, omega arith), first, second)
beside_part scope p q a b (tree c ts) first second =
    ((refl, omega arith), first, subst (SpellsProtocol scope q) (beside_first-more 0 0 a b c ts) second)

-- the list of the parts, at any offsets
pub par_spelled : (scope : NameScope) (p : Protocol) (pos at : ℕ) (a : Located) (ts : Forest) → 1 ≤ tree_count ts → SpellsProtocol scope p (beside_parts a ts) → SpellsProtocol scope p (group pos (tree (word at (codes "par")) (tree a ts)))
par_spelled scope p pos at a no_trees some spelled = absurd (omega (arith, some))
par_spelled scope p pos at a (tree b ts) some spelled =
    SpellsProtocol-offsetless scope p (group 0 (tree (word 0 (codes "par")) (tree a (tree b ts)))) (group pos (tree (word at (codes "par")) (tree a (tree b ts)))) spelled refl

one_less : (n : ℕ) → n ≡ suc n - 1
one_less n = omega arith

pub par_counted : (a : Located) (ts : Forest) (old m new : Option ℕ) → m ≡ counted (tree_count ts) old → new ≡ counted (protocols_count (tree a ts)) m → new ≡ counted (protocol_list_count (Some par_shape) (tree a ts)) old
par_counted a ts old m new one two =
    let all = protocols_count (tree a ts) in
    two ∙ ap (counted all) one ∙ counted_twice (tree_count ts) all old
    ∙ ap (λ n. counted (n + all) old) (one_less (tree_count ts))

-- the tests before those of the parts
par_before : (pos : ℕ) (a : Located) (ts : Forest) (old : Option ℕ) → 1 ≤ tree_count ts → node_faults (counted (tree_count ts) old) pos ≡ [] → tested (nat_le 2 (tree_count (tree a ts))) (form_fault NotAForm pos) ++ node_faults (counted (tree_count (tree a ts) - 1) old) pos ≡ []
par_before pos a ts old some clean =
    let many : 2 ≤ suc (tree_count ts) = omega (arith, some) in
    clean-append (tested (nat_le 2 (suc (tree_count ts))) (form_fault NotAForm pos)) (node_faults (counted (suc (tree_count ts) - 1) old) pos)
    (ap (λ b. tested b (form_fault NotAForm pos)) (le-leb 2 (suc (tree_count ts)) many))
    (subst (λ n. node_faults (counted n old) pos ≡ []) (one_less (tree_count ts)) clean)

-- the tests of the list are those of its parts
pub par_faults : (scope : NameScope) (pos : ℕ) (a : Located) (ts : Forest) (old m : Option ℕ) → 1 ≤ tree_count ts → m ≡ counted (tree_count ts) old → node_faults (counted (tree_count ts) old) pos ≡ [] → protocol_list_faults scope old pos (Some par_shape) (tree a ts) ≡ protocols_faults scope m (tree a ts)
par_faults scope pos a ts old m some one clean =
    let here = counted (suc (tree_count ts) - 1) old in
    let there = one ∙ ap (λ n. counted n old) (one_less (tree_count ts)) in
    ap (λ fs. fs ++ protocols_faults scope here (tree a ts)) (par_before pos a ts old some clean)
    ∙ ap (λ n. protocols_faults scope n (tree a ts)) (sym there)

-- ---- new

-- a port around others
pub under_port : (scope : NameScope) (c : List ℕ) (w : ℕ) (p : Protocol) (d y : Located) (ds : Forest) → SpellsPort c w d → SpellsProtocol scope p (under_ports ds y) → SpellsProtocol scope (hiding c w p) (under_ports (tree d ds) y)
under_port scope c w p d y no_trees port spelled = ((refl, refl), port, spelled)
under_port scope c w p d y (tree e ds) port spelled =
    ((refl, refl), port, subst (SpellsProtocol scope p) (under_first-more 0 0 0 d e ds y) spelled)

-- the list of the ports and the body, at any offsets
pub new_spelled : (scope : NameScope) (p : Protocol) (pos at from : ℕ) (ds : Forest) (y : Located) → 1 ≤ tree_count ds → SpellsProtocol scope p (under_ports ds y) → SpellsProtocol scope p (group pos (tree (word at (codes "new")) (tree (group from ds) (tree y no_trees))))
new_spelled scope p pos at from no_trees y some spelled = absurd (omega (arith, some))
new_spelled scope p pos at from (tree d ds) y some spelled =
    SpellsProtocol-offsetless scope p (group 0 (tree (word 0 (codes "new")) (tree (group 0 (tree d ds)) (tree y no_trees)))) (group pos (tree (word at (codes "new")) (tree (group from (tree d ds)) (tree y no_trees)))) spelled refl

pub new_counted : (from : ℕ) (ds : Forest) (y : Located) (old m new : Option ℕ) → m ≡ counted (tree_count ds) old → new ≡ counted (protocol_count y) m → new ≡ counted (protocol_list_count (Some new_shape) (tree (group from ds) (tree y no_trees))) old
new_counted from ds y old m new one two =
    two ∙ ap (counted (protocol_count y)) one ∙ counted_twice (tree_count ds) (protocol_count y) old

-- the tests of ports, of which there are some
some_ports : (from : ℕ) (ds : Forest) → 1 ≤ tree_count ds → new_faults (group from ds) ≡ hidden_faults ds
some_ports from no_trees some = absurd (omega (arith, some))
some_ports from (tree d ds) some = refl

-- the tests of the list are those of the ports and the body
pub new_list_faults : (scope : NameScope) (pos from : ℕ) (ds : Forest) (y : Located) (old m : Option ℕ) → 1 ≤ tree_count ds → m ≡ counted (tree_count ds) old → node_faults (counted (tree_count ds) old) pos ≡ [] → protocol_list_faults scope old pos (Some new_shape) (tree (group from ds) (tree y no_trees)) ≡ hidden_faults ds ++ protocol_faults scope m y
new_list_faults scope pos from ds y old m some one clean =
    let here = counted (tree_count ds) old in
    ap (λ fs. fs ++ (new_faults (group from ds) ++ protocol_faults scope here y)) clean
    ∙ ap (λ fs. fs ++ protocol_faults scope here y) (some_ports from ds some)
    ∙ ap (λ n. hidden_faults ds ++ protocol_faults scope n y) (sym one)
