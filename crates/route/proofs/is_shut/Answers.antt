-- What a record of a sound layer keeps fits 32 bits.
use Rattle.std.proofs.Common.{Some, sym, subst, ◌∙◌, arith, rules}
use Rattle.words.specs.Word.{Bytes}
use Rattle.table.specs.Records.{rows_of}
use Rattle.table.proofs.Bytes.{Small, rows-storable, held_small}
use Rattle.route.proofs.is_shut.Goals as goal

pub overflow_cast-kept : goal.overflow_cast-kept
unfolding rows_of
overflow_cast-kept c =
    let l = c.args.flags.now in
    let bytes : Bytes l = search rules in
    let small : Small 20 (Some c.in-Some.kept) = subst (Small 20) (sym c.held.ensures ∙ c.in-Some.is) (held_small 20 c.args.c (rows_of 20 l c.args.count) (rows-storable 20 l 0 c.args.count bytes)) in
    omega (arith, small)
