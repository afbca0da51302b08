use Rattle.std.proofs.Common.{◌≡◌, ◌∙◌, arith, length, refl}
use Rattle.std.proofs.lemmas.Bool.Decides.{nat_tests}
use Rattle.interpolator_prepared.proofs.CompileLemmas.{none_left}
use Rattle.interpolator_prepared.proofs.compile.compile_by.Goals as goal

pub loop-left-init : goal.loop-left-init
loop-left-init g c =
    rw (c.in_ok-made.ensures.items) (record { whole = c.requires.whole; goes_on = refl })

pub add_first-requires : goal.add_first-requires
add_first-requires g c = record { whole = c.loop-left.invariant.whole }

pub loop-left-smaller : goal.loop-left-smaller
loop-left-smaller g c = c.in_ok-left.ensures.shorter (grind (arith, nat_tests))

pub loop-left-preserved : goal.loop-left-preserved
loop-left-preserved g c = record {
  whole = c.in_ok-left.ensures.whole;
  goes_on = c.in_ok-left.ensures.added ∙ c.loop-left.invariant.goes_on;
}

pub returns : goal.returns
returns g c =
    let none : length c.loop-left.left.now ≡ 0 = grind (arith, nat_tests) in
    record {
      program = none_left (g.N.Names.known c.args.names) c.args.text.now _ _
          c.loop-left.left.now none c.loop-left.invariant.goes_on;
    }
