use Rattle.std.proofs.Common.{sym, ap, ◌∙◌}
use Rattle.std.specs.Prelude.{Some}
use Rattle.ipdl_term.specs.Sizes.{protocol_nodes}
use Rattle.ipdl_tree.specs.Trees.{without_offsets}
use Rattle.ipdl_tree.specs.Spelling.{tree_text}
use Rattle.ipdl_printing.specs.Printing.{protocol_tree}
use Rattle.ipdl_forms.proofs.Terms.{nodes_counted}
use Rattle.ipdl_roundtrip.specs.Shown.{shown_scope}
use Rattle.ipdl_roundtrip.proofs.PrintedProtocols.{SpellsProtocol-shown}
use Rattle.ipdl_roundtrip.proofs.laws.shown_is_read_back.Goals as goal

pub returns-clause-text : goal.returns-clause-text
returns-clause-text c = λ symbols p showable formed t spelled.
    let read = c.shown_is_read.ensures symbols p showable formed in
    let same = c.one_tree.ensures t (read.1).0 (tree_text (protocol_tree symbols p)) spelled ((read.1).1) in
    ap without_offsets same ∙ (read.1).2 ∙ sym (c.printed_tree_has_no_offsets.ensures symbols p)

pub returns-clause-spelled : goal.returns-clause-spelled
returns-clause-spelled c = λ symbols p showable t alike.
    c.offsets_are_free.ensures.protocols (shown_scope symbols) p (protocol_tree symbols p) t (SpellsProtocol-shown symbols p showable) (sym alike)

pub returns-clause-alone : goal.returns-clause-alone
returns-clause-alone c = λ symbols p showable t alike q spelled.
    let shown = c.offsets_are_free.ensures.protocols (shown_scope symbols) p (protocol_tree symbols p) t (SpellsProtocol-shown symbols p showable) (sym alike) in
    c.one_term.ensures.protocols (shown_scope symbols) q p t spelled shown

pub returns-clause-clean : goal.returns-clause-clean
returns-clause-clean c = λ symbols p showable t alike.
    let shown = c.offsets_are_free.ensures.protocols (shown_scope symbols) p (protocol_tree symbols p) t (SpellsProtocol-shown symbols p showable) (sym alike) in
    c.spelled_is_clean.ensures.protocols (shown_scope symbols) (Some 0) p t shown (nodes_counted (protocol_nodes p) showable.nodes)
