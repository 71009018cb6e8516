use Rattle.std.proofs.Common.{◌≡◌, ◌∙◌, ap, subst, true, Some}
use Rattle.smp_settings.specs.Cells.{changed_by, is_change}
use Rattle.smp_settings.specs.Changes.{change_said}
use Rattle.smp_settings.specs.declared.cell.Change.{Change}
use Rattle.smp_settings.proofs.Changing.{given_full, given_room, given_made, removed_made}
use Rattle.smp_settings.proofs.cell.make_change.Goals as goal

pub returns-then-is_full-clause-changed : goal.returns-then-is_full-clause-changed
returns-then-is_full-clause-changed c =
    ap (λ (x : Change). changed_by c.args.table.now (Some (change_said x))) c.in-Given.is
    ∙ given_full c.in-Given.name.now c.in-Given.val.now c.args.table.now c.requires.within (cc c.if-is_full.ensures)

pub put-requires-clause-room : goal.put-requires-clause-room
put-requires-clause-room c =
    given_room c.in-Given.name.now c.in-Given.val.now c.args.table.now c.requires.within (subst (λ (x : Change). is_change (change_said x) ≡ true) c.in-Given.is c.requires.lawful) (cc c.if-is_full.ensures)

pub returns-else-is_full-clause-changed : goal.returns-else-is_full-clause-changed
returns-else-is_full-clause-changed c =
    ap (λ (x : Change). changed_by c.args.table.now (Some (change_said x))) c.in-Given.is
    ∙ (given_made c.in-Given.name.now c.in-Given.val.now c.args.table.now c.put.new.self c.requires.within
    (subst (λ (x : Change). is_change (change_said x) ≡ true) c.in-Given.is c.requires.lawful) (cc c.if-is_full.ensures) c.put.ensures).0

pub returns-else-is_full-clause-within : goal.returns-else-is_full-clause-within
returns-else-is_full-clause-within c =
    (given_made c.in-Given.name.now c.in-Given.val.now c.args.table.now c.put.new.self c.requires.within
    (subst (λ (x : Change). is_change (change_said x) ≡ true) c.in-Given.is c.requires.lawful) (cc c.if-is_full.ensures) c.put.ensures).1

pub returns-in-Removed-clause-changed : goal.returns-in-Removed-clause-changed
returns-in-Removed-clause-changed c =
    ap (λ (x : Change). changed_by c.args.table.now (Some (change_said x))) c.in-Removed.is
    ∙ (removed_made c.in-Removed.name.now c.args.table.now c.remove.new.self c.requires.within c.remove.ensures.removed).0

pub returns-in-Removed-clause-within : goal.returns-in-Removed-clause-within
returns-in-Removed-clause-within c = (removed_made c.in-Removed.name.now c.args.table.now c.remove.new.self c.requires.within c.remove.ensures.removed).1
