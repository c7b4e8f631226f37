use Rattle.fancy_pattern.proofs.Surveys.{notes_absent, notes_backref, notes_level}
use Rattle.fancy_pattern.proofs.survey.Survey.note.Goals as goal

pub returns-in-Absent : goal.returns-in-Absent
returns-in-Absent c = notes_absent c.args.self.now c.args.expr.now c.in-Absent.field-0 c.in-Absent.is

pub returns-in-Backref : goal.returns-in-Backref
returns-in-Backref c =
    notes_backref c.note_reference.result c.args.self.now c.note_reference.new.self c.args.expr.now c.in-Backref.group c.in-Backref.casei c.in-Backref.is
    c.note_reference.ensures

pub returns-in-BackrefWithRelativeRecursionLevel : goal.returns-in-BackrefWithRelativeRecursionLevel
returns-in-BackrefWithRelativeRecursionLevel c =
    let r = c.in-BackrefWithRelativeRecursionLevel in
    notes_level c.note_reference-in-BackrefWithRelativeRecursionLevel.result c.args.self.now c.note_reference-in-BackrefWithRelativeRecursionLevel.new.self
    c.args.expr.now r.group r.relative_level r.casei r.is c.note_reference-in-BackrefWithRelativeRecursionLevel.ensures
