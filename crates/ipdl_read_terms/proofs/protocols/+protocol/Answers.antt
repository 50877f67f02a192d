use Rattle.std.specs.Rc.{rc_str_bytes}
use Rattle.std.proofs.Common.{◌≡◌, ℕ, ◌-◌, ◌≤◌, List, [], ◌∷◌, ◌++◌, length, take, drop, sym, ◌∙◌, ap, subst, arith}
use Rattle.std.specs.Prelude.{OnOk, Some, codes}
use Rattle.std.proofs.lemmas.Result.{err_from_is_err_and}
use Rattle.ipdl_tree.specs.declared.tree.Tree.{Tree}
use Rattle.ipdl_tree.specs.Trees.{Located, Forest, word, group, no_trees, tree}
use Rattle.ipdl_tree.specs.Views.{located, all_located}
use Rattle.ipdl_term.specs.Terms.{parallel, hiding}
use Rattle.ipdl_term.specs.Views.{protocol_of}
use Rattle.ipdl_forms.specs.Counts.{counted, node_faults}
use Rattle.ipdl_forms.specs.Faults.{TellsFirst}
use Rattle.ipdl_forms.specs.Lists.{tree_count}
use Rattle.ipdl_forms.specs.Protocols.{SpellsProtocol, par_shape, new_shape, shape_named, protocol_count, protocol_faults, protocols_faults, hidden_faults}
use Rattle.ipdl_read_terms.specs.Lists.{protocol_list_count, protocol_list_faults, beside_parts, under_ports}
use Rattle.ipdl_read_terms.specs.Binders.{scope_of}
use Rattle.ipdl_forms.specs.Widths.{SpellsPort}
use Rattle.ipdl_forms.proofs.Faults.{OnOk-map}
use Rattle.ipdl_read_terms.specs.Outcomes.{IsRead}
use Rattle.ipdl_read_terms.proofs.Outcomes.{IsRead-as}
use Rattle.ipdl_read_terms.proofs.Lists.{located_headed, located_group, first_and_rest, two_items, tree_count_located}
use Rattle.ipdl_read_terms.proofs.ProtocolReading.{some_trees, beside_part, under_port, par_spelled, par_counted, par_faults, new_spelled, new_counted, new_list_faults}
use Rattle.ipdl_read_terms.proofs.Weights.{weight_new}
use Rattle.ipdl_read_terms.proofs.protocols.+protocol.Goals as goal

pub read_proto-returns-in-Word-node-clause-read : goal.read_proto-returns-in-Word-node-clause-read
read_proto-returns-in-Word-node-clause-read t c =
    let is = located_headed c.args.tree.now c.head-item.result c.in-Group.parts c.as_slice.result.now c.in-Word-node.name c.in-Group.is c.as_slice.ensures.value c.in-len1-up.len_at_least c.head-item.is c.in-Word-node.is in
    let P : Located → Type 0 = λ u. IsRead (λ p. SpellsProtocol (scope_of c.args.scope.now) (protocol_of p) u) (protocol_faults (scope_of c.args.scope.now) c.args.nodes.now.counted u) c.read_list.result in
    subst P (sym is) c.read_list.ensures.read

pub read_proto-returns-in-Word-node-clause-counted : goal.read_proto-returns-in-Word-node-clause-counted
read_proto-returns-in-Word-node-clause-counted t c =
    let is = located_headed c.args.tree.now c.head-item.result c.in-Group.parts c.as_slice.result.now c.in-Word-node.name c.in-Group.is c.as_slice.ensures.value c.in-len1-up.len_at_least c.head-item.is c.in-Word-node.is in
    let P : Located → Type 0 = λ u. OnOk c.read_list.result (c.read_list.new.nodes.counted ≡ counted (protocol_count u) c.args.nodes.now.counted) in
    subst P (sym is) c.read_list.ensures.counted

pub read_par-returns-clause-read : goal.read_par-returns-clause-read
read_par-returns-clause-read t c =
    let S = scope_of c.args.scope.now in
    let n = c.args.nodes.now.counted in
    let rest = take (length c.args.operands.now - 1) (drop 1 c.args.operands.now) in
    let is = first_and_rest c.args.operands.now c.first-item.result c.in-len1-up.len_at_least c.first-item.is in
    let a = located c.first-item.result in
    let ts = all_located rest in
    let same = tree_count_located rest in
    let few : 1 ≤ length rest = some_trees rest c.is_empty.result c.is_empty.ensures c.if-is_empty.false in
    let some : 1 ≤ tree_count ts = omega (arith, same, few) in
    let one = c.in_ok-add.ensures.value ∙ ap (λ n. counted n c.args.nodes.now.counted) (sym same) in
    let clean = subst (λ n. node_faults (counted n c.args.nodes.now.counted) c.args.list.0 ≡ []) (sym same) c.in_ok-add.ensures.clean in
    let P : List Tree → Type 0 = λ xs. IsRead (λ p. (pos at : ℕ) → SpellsProtocol S (protocol_of p) (group pos (tree (word at (codes "par")) (all_located xs)))) (protocol_list_faults S n c.args.list.0 (Some par_shape) (all_located xs)) c.read_parts.result in
    subst P (sym is)
    (IsRead-as c.read_parts.result (λ p. SpellsProtocol S (protocol_of p) (beside_parts a ts)) (λ p. (pos at : ℕ) → SpellsProtocol S (protocol_of p) (group pos (tree (word at (codes "par")) (tree a ts)))) (protocols_faults S c.add.new.self.counted (tree a ts)) (protocol_list_faults S n c.args.list.0 (Some par_shape) (tree a ts)) (λ p spelled pos at. par_spelled S (protocol_of p) pos at a ts some spelled) (par_faults S c.args.list.0 a ts n c.add.new.self.counted some one clean) c.read_parts.ensures.read)

pub read_par-returns-clause-counted : goal.read_par-returns-clause-counted
read_par-returns-clause-counted t c =
    let rest = take (length c.args.operands.now - 1) (drop 1 c.args.operands.now) in
    let is = first_and_rest c.args.operands.now c.first-item.result c.in-len1-up.len_at_least c.first-item.is in
    let a = located c.first-item.result in
    let ts = all_located rest in
    let same = tree_count_located rest in
    let few : 1 ≤ length rest = some_trees rest c.is_empty.result c.is_empty.ensures c.if-is_empty.false in
    let some : 1 ≤ tree_count ts = omega (arith, same, few) in
    let one = c.in_ok-add.ensures.value ∙ ap (λ n. counted n c.args.nodes.now.counted) (sym same) in
    let clean = subst (λ n. node_faults (counted n c.args.nodes.now.counted) c.args.list.0 ≡ []) (sym same) c.in_ok-add.ensures.clean in
    let P : List Tree → Type 0 = λ xs. OnOk c.read_parts.result (c.read_parts.new.nodes.counted ≡ counted (protocol_list_count (Some par_shape) (all_located xs)) c.args.nodes.now.counted) in
    subst P (sym is) (OnOk-map c.read_parts.result _ (c.read_parts.new.nodes.counted ≡ counted (protocol_list_count (Some par_shape) (tree a ts)) c.args.nodes.now.counted) (par_counted a ts c.args.nodes.now.counted _ c.read_parts.new.nodes.counted one) c.read_parts.ensures.counted)

pub read_under-returns-clause-read : goal.read_under-returns-clause-read
read_under-returns-clause-read t c =
    let S = scope_of c.args.scope.now in
    let n = c.args.nodes.now.counted in
    let ds = all_located c.args.ports.now in
    let y = located c.args.body.now in
    let same = tree_count_located c.args.ports.now in
    let few : 1 ≤ length c.args.ports.now = some_trees c.args.ports.now c.is_empty.result c.is_empty.ensures c.if-is_empty.false in
    let some : 1 ≤ tree_count ds = omega (arith, same, few) in
    let one = c.in_ok-add.ensures.value ∙ ap (λ n. counted n c.args.nodes.now.counted) (sym same) in
    let clean = subst (λ n. node_faults (counted n c.args.nodes.now.counted) c.args.list.0 ≡ []) (sym same) c.in_ok-add.ensures.clean in
    IsRead-as c.read_hidden.result (λ p. SpellsProtocol S (protocol_of p) (under_ports ds y)) (λ p. (pos from : ℕ) → SpellsProtocol S (protocol_of p) (group pos (tree (word from (codes "new")) (tree (group c.args.at.0 ds) (tree y no_trees))))) (hidden_faults ds ++ protocol_faults S c.add.new.self.counted y) (protocol_list_faults S n c.args.list.0 (Some new_shape) (tree (group c.args.at.0 ds) (tree y no_trees))) (λ p spelled pos from. new_spelled S (protocol_of p) pos from c.args.at.0 ds y some spelled) (new_list_faults S c.args.list.0 c.args.at.0 ds y n c.add.new.self.counted some one clean) c.read_hidden.ensures.read

pub read_under-returns-clause-counted : goal.read_under-returns-clause-counted
read_under-returns-clause-counted t c =
    let ds = all_located c.args.ports.now in
    let y = located c.args.body.now in
    let same = tree_count_located c.args.ports.now in
    let few : 1 ≤ length c.args.ports.now = some_trees c.args.ports.now c.is_empty.result c.is_empty.ensures c.if-is_empty.false in
    let some : 1 ≤ tree_count ds = omega (arith, same, few) in
    let one = c.in_ok-add.ensures.value ∙ ap (λ n. counted n c.args.nodes.now.counted) (sym same) in
    let clean = subst (λ n. node_faults (counted n c.args.nodes.now.counted) c.args.list.0 ≡ []) (sym same) c.in_ok-add.ensures.clean in
    OnOk-map c.read_hidden.result _ (c.read_hidden.new.nodes.counted ≡ counted (protocol_list_count (Some new_shape) (tree (group c.args.at.0 ds) (tree y no_trees))) c.args.nodes.now.counted) (new_counted c.args.at.0 ds y c.args.nodes.now.counted _ c.read_hidden.new.nodes.counted one) c.read_hidden.ensures.counted

pub read_new-returns-clause-read : goal.read_new-returns-clause-read
read_new-returns-clause-read t c =
    let two = two_items c.args.operands.now c.ports-item.result c.body-item.result c.in-len2.len_at_least c.in-len2.len_below c.ports-item.is c.body-item.is in
    let held = located_group c.ports-item.result c.in-Group.held c.deref.result.now c.in-Group.is c.deref.ensures.value in
    let y = located c.body-item.result in
    let is = ap all_located two ∙ ap (λ u. tree u (tree y no_trees)) held in
    let P : Forest → Type 0 = λ ts. IsRead (λ p. (pos at : ℕ) → SpellsProtocol (scope_of c.args.scope.now) (protocol_of p) (group pos (tree (word at (codes "new")) ts))) (protocol_list_faults (scope_of c.args.scope.now) c.args.nodes.now.counted c.args.list.0 (Some new_shape) ts) c.read_under.result in
    subst P (sym is) c.read_under.ensures.read

pub read_new-returns-clause-counted : goal.read_new-returns-clause-counted
read_new-returns-clause-counted t c =
    let two = two_items c.args.operands.now c.ports-item.result c.body-item.result c.in-len2.len_at_least c.in-len2.len_below c.ports-item.is c.body-item.is in
    let held = located_group c.ports-item.result c.in-Group.held c.deref.result.now c.in-Group.is c.deref.ensures.value in
    let y = located c.body-item.result in
    let is = ap all_located two ∙ ap (λ u. tree u (tree y no_trees)) held in
    let P : Forest → Type 0 = λ ts. OnOk c.read_under.result (c.read_under.new.nodes.counted ≡ counted (protocol_list_count (Some new_shape) ts) c.args.nodes.now.counted) in
    subst P (sym is) c.read_under.ensures.counted

pub read_new-read_under-requires : goal.read_new-read_under-requires
read_new-read_under-requires t c =
    let less = weight_new c.args.operands.now c.ports-item.result c.body-item.result c.in-Group.held c.deref.result.now c.in-len2.len_at_least c.in-len2.len_below c.ports-item.is c.body-item.is c.in-Group.is c.deref.ensures.value in
    (omega (arith, less, c.decreases), (c.requires.alone, c.requires.under))

pub read_hidden-returns-clause-read : goal.read_hidden-returns-clause-read
read_hidden-returns-clause-read t c =
    let rest = all_located (take (length c.args.ports.now - 1) (drop 1 c.args.ports.now)) in
    let is = first_and_rest c.args.ports.now c.first-item.result c.in-len1-up.len_at_least c.first-item.is in
    let d = located c.first-item.result in
    let y = located c.args.body.now in
    let name = rc_str_bytes c.channel.inside.text in
    let inside = protocol_of c.in_ok-new.field-0.value in
    let same : c.in_ok-channel.channel ≡ name = cc (c.channel.view_is) in
    let port = subst (λ x. SpellsPort x c.in_ok-channel.width d) same c.in_ok-channel.ensures.spelled in
    let under = subst (λ p. SpellsProtocol (scope_of c.args.scope.now) (protocol_of p) (under_ports rest y)) (sym c.in_ok-new.ensures.ok) c.in_ok-inside.ensures.read.0 in
    let after = protocol_faults (scope_of c.args.scope.now) c.args.nodes.now.counted y in
    let P : List Tree → Type 0 = λ xs. SpellsProtocol (scope_of c.args.scope.now) (hiding name c.in_ok-channel.width inside) (under_ports (all_located xs) y) in
    let Q : List Tree → Type 0 = λ xs. hidden_faults (all_located xs) ++ after ≡ [] in
    (subst P (sym is) (under_port (scope_of c.args.scope.now) name c.in_ok-channel.width inside d y rest port under), subst Q (sym is) (ap (λ fs. (fs ++ hidden_faults rest) ++ after) c.in_ok-channel.ensures.clean ∙ c.in_ok-inside.ensures.read.1))

pub read_parts-returns-clause-read : goal.read_parts-returns-clause-read
read_parts-returns-clause-read t c =
    let others = all_located (take (length c.args.rest.now - 1) (drop 1 c.args.rest.now)) in
    let is = first_and_rest c.args.rest.now c.second-item.result c.in-len1-up.len_at_least c.second-item.is in
    let a = located c.args.first.now in
    let b = located c.second-item.result in
    let left = protocol_of c.in_ok-new.field-0.value in
    let right = protocol_of c.in_ok-new-2.field-0.value in
    let part = subst (λ p. SpellsProtocol (scope_of c.args.scope.now) (protocol_of p) a) (sym c.in_ok-new.ensures.ok) c.in_ok-part.ensures.read.0 in
    let beside = subst (λ p. SpellsProtocol (scope_of c.args.scope.now) (protocol_of p) (beside_parts b others)) (sym c.in_ok-new-2.ensures.ok) c.in_ok-beside.ensures.read.0 in
    let P : List Tree → Type 0 = λ xs. SpellsProtocol (scope_of c.args.scope.now) (parallel left right) (beside_parts a (all_located xs)) in
    let Q : List Tree → Type 0 = λ xs. protocols_faults (scope_of c.args.scope.now) c.args.nodes.now.counted (tree a (all_located xs)) ≡ [] in
    let later = subst (λ n. protocols_faults (scope_of c.args.scope.now) n (tree b others) ≡ []) c.in_ok-part.ensures.counted c.in_ok-beside.ensures.read.1 in
    (subst P (sym is) (beside_part (scope_of c.args.scope.now) left right a b others part beside), subst Q (sym is) (ap (λ fs. fs ++ protocols_faults (scope_of c.args.scope.now) (counted (protocol_count a) c.args.nodes.now.counted) (tree b others)) c.in_ok-part.ensures.read.1 ∙ later))

pub read_list-returns-in_err-read_nil-in-nil-clause-read : goal.read_list-returns-in_err-read_nil-in-nil-clause-read
read_list-returns-in_err-read_nil-in-nil-clause-read t c =
    let p = err_from_is_err_and c.from_residual.result c.from_residual.ensures.1 in
    let fault = c.in_err-read_nil-in-nil.field-0.0 in
    let same : c.args.name.now ≡ 110 ∷ 105 ∷ 108 ∷ [] = cc (c.in-nil.is, c.text.ensures.value) in
    let P : List ℕ → Type 0 = λ name. TellsFirst fault (protocol_list_faults (scope_of c.args.scope.now) c.args.nodes.now.counted c.args.list.0 (shape_named name) (all_located c.args.operands.now)) in
    rw (p.1, p.2) (subst P (sym same) (c.in_err-read_nil-in-nil.ensures.read (scope_of c.args.scope.now)))

pub read_list-returns-in_ok-read_nil-in-nil-clause-read : goal.read_list-returns-in_ok-read_nil-in-nil-clause-read
read_list-returns-in_ok-read_nil-in-nil-clause-read t c =
    let read = c.in_ok-read_nil-in-nil.ensures.read (scope_of c.args.scope.now) in
    let same : c.args.name.now ≡ 110 ∷ 105 ∷ 108 ∷ [] = cc (c.in-nil.is, c.text.ensures.value) in
    let P : List ℕ → Type 0 = λ name. protocol_list_faults (scope_of c.args.scope.now) c.args.nodes.now.counted c.args.list.0 (shape_named name) (all_located c.args.operands.now) ≡ [] in
    ((ap Some same, read.0), subst P (sym same) read.1)
