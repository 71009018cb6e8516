use Rattle.std.proofs.Common.{◌≡◌, ◌≤◌, ◌∙◌, sym, ap, subst, List, length, true, Option, Some, Ok, ℕ, arith}
use Rattle.smp_model.specs.declared.device.StoredFile.{StoredFile}
use Rattle.smp_model.specs.FileGroup.{begins_file}
use Rattle.smp_model.specs.Files.{file_of, stored_file}
use Rattle.smp_model.specs.Named.{is_ascending}
use Rattle.smp_files.specs.Writing.{Responds}
use Rattle.smp_files.proofs.Naming.{named_without, without_ascending}
use Rattle.smp_files.proofs.Storing.{file_limits_of, begun, begun_responds}
use Rattle.smp_files.proofs.table.FileTable.begin.Goals as goal

pub put-requires-clause-sorted : goal.put-requires-clause-sorted
put-requires-clause-sorted c =
    subst (λ (xs : List StoredFile). is_ascending (λ (f : StoredFile). f.name) xs ≡ true) (sym c.in-Some-take_buffer.ensures.taken.files)
    (without_ascending (λ (f : StoredFile). f.name) c.args.name.now c.self.inside.files.items (file_limits_of c.self.inside.files.items c.self.invariant.lawful).ascending)

pub put-requires-clause-new : goal.put-requires-clause-new
put-requires-clause-new c =
    ap (file_of c.args.name.now) c.in-Some-take_buffer.ensures.taken.files ∙ named_without (λ (f : StoredFile). f.name) c.args.name.now c.self.inside.files.items

pub invariant_of-self-2 : goal.invariant_of-self-2
invariant_of-self-2 c =
    let b = begun c.in-Some-take_buffer.buffer c.args.name.now c.args.part.now c.append.new.self c.in-Some.len c.self.inside.files.items c.take_buffer.new.files.items c.put.new.files.items
    (length c.self.inside.spare.items) (length c.take_buffer.new.spare.items) c.self.invariant.lawful c.self.invariant.memory c.in-Some-take_buffer.ensures.taken c.requires
    (omega arith) (omega arith) c.append.ensures
    (c.put.ensures.files ∙ ap (λ (f : StoredFile). stored_file f.name f.announced f.held c.take_buffer.new.files.items) c.new.ensures) in
    record {
      lawful = b.lawful;
      memory = b.memory;
      files_fit = omega (arith, c.self.invariant.files_fit, c.take_buffer.ensures.room, c.put.ensures.room);
      spare_fit = omega (arith, c.self.invariant.spare_fit, c.take_buffer.ensures.spare_room);
    }

pub returns : goal.returns
returns c =
    let b = begun c.in-Some-take_buffer.buffer c.args.name.now c.args.part.now c.append.new.self c.in-Some.len c.self.inside.files.items c.take_buffer.new.files.items c.put.new.files.items
    (length c.self.inside.spare.items) (length c.take_buffer.new.spare.items) c.self.invariant.lawful c.self.invariant.memory c.in-Some-take_buffer.ensures.taken c.requires
    (omega arith) (omega arith) c.append.ensures
    (c.put.ensures.files ∙ ap (λ (f : StoredFile). stored_file f.name f.announced f.held c.take_buffer.new.files.items) c.new.ensures) in
    let short : c.in-Some.len ≤ 16384 = omega arith in
    let fits : length c.args.part.now ≤ c.in-Some.len = omega arith in
    subst (λ (o : Option ℕ). Responds (begins_file c.args.self.now c.args.name.now c.args.part.now o) (Ok (length c.args.part.now)) c.args.self.now c.put.new.files.items) (sym c.in-Some.is)
    (subst (λ (xs : List StoredFile). Responds (begins_file xs c.args.name.now c.args.part.now (Some c.in-Some.len)) (Ok (length c.args.part.now)) xs c.put.new.files.items) c.self.view_is
    (begun_responds c.args.name.now c.args.part.now c.in-Some.len (length c.take_buffer.new.spare.items) c.self.inside.files.items c.put.new.files.items short fits b))
