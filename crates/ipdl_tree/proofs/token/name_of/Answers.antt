use Rattle.std.proofs.Common.{◌&&◌, drop, length, leb}
use Rattle.std.specs.Str.{is_utf8, chars}
use Rattle.std.proofs.lemmas.Bool.{and_parts}
use Rattle.std.proofs.lemmas.Str.{IsUtf8-from_is_utf8, IsCharBoundary-from_drop}
use Rattle.ipdl_base.specs.Names.{is_name, spells_name}
use Rattle.ipdl_tree.proofs.token.name_of.Goals as goal

pub range_from-requires : goal.range_from-requires
unfolding is_name
range_from-requires c =
    let name = drop c.args.start c.args.front.now in
    let p = and_parts (is_utf8 name && leb (length name) 64) (spells_name (chars name)) c.requires.name in
    let q = and_parts (is_utf8 name) (leb (length name) 64) p.0 in
    λ _. IsCharBoundary-from_drop c.args.front.now c.args.start c.requires.within (IsUtf8-from_is_utf8 name q.0)
