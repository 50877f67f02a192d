use Rattle.std.proofs.Common.{rules, ◌≡◌, false, None, sym, ap, ◌∙◌, subst}
use Rattle.std.specs.Map.{keys_of, values_of}
use Rattle.ipdl_term.specs.Channels.{has}
use Rattle.ipdl_embed.specs.Pairs.{old_name}
use Rattle.ipdl_embed.specs.Tables.{renaming_in}
use Rattle.ipdl_embed.proofs.Completions.{name_is_free, channel_is_other}
use Rattle.ipdl_embed.proofs.completing.with_channel.Goals as goal

pub with-requires-clause-free : goal.with-requires-clause-free
with-requires-clause-free c =
    let none : None ≡ old_name c.args.renaming c.in_ok-name.name = search rules in
    subst (λ pairs. has (values_of pairs) c.in_ok-name.name ≡ false) (sym c.renaming.view_is) (name_is_free c.args.renaming c.in_ok-name.name none)

pub with-requires-clause-other : goal.with-requires-clause-other
with-requires-clause-other c =
    let f = renaming_in c.args.given.now in
    let d = c.args.channel.now in
    let none : None ≡ old_name c.args.renaming c.in_ok-name.name = search rules in
    let free = ap (λ e. has (values_of c.args.renaming) e) (sym c.in_ok-name.ensures) ∙ name_is_free c.args.renaming c.in_ok-name.name none in
    let other = channel_is_other f c.args.renaming d c.requires free in
    ap (λ e. has (keys_of c.renaming.inside.pairs.items) e) c.in_ok-copy-3.ensures ∙ subst (λ pairs. has (keys_of pairs) d ≡ false) (sym c.renaming.view_is) other
