use Rattle.std.proofs.Common.{◌∙◌, sym, ap, subst, length, arith}
use Rattle.smp_files.specs.Places.{FileAt}
use Rattle.smp_model.specs.Files.{file_of}
use Rattle.smp_files.proofs.Places.{taken_file, taken_spare}
use Rattle.smp_files.proofs.file.take_buffer.Goals as goal

pub returns-in-Some-clause-taken : goal.returns-in-Some-clause-taken
returns-in-Some-clause-taken c =
    taken_file c.in-Some.at (length c.args.spare.now.items) c.into_buffer.result c.args.name.now c.args.files.now.items c.remove.new.self.items c.requires.sorted
    (subst (FileAt c.in-Some.at c.args.name.now) c.as_slice.ensures.value c.in-Some.ensures.found) c.into_buffer.ensures c.remove.ensures.items (omega (arith, c.remove.ensures.len))

pub returns-in-Some-pop-clause-taken : goal.returns-in-Some-pop-clause-taken
returns-in-Some-pop-clause-taken c =
    taken_spare (length c.args.spare.now.items) (length c.pop.new.self.items) c.cleared.result c.args.name.now c.args.files.now.items
    (ap (file_of c.args.name.now) (sym c.as_slice.ensures.value) ∙ c.in-None.ensures.none) c.cleared.ensures (omega (arith, c.in-Some-pop.ensures.cases))
