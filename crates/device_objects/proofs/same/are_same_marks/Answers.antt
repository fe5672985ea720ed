use Rattle.std.proofs.lemmas.Slice.Eq.{slice_eq-Decides}
use Rattle.device_objects.proofs.Marks.{mark_decides}
use Rattle.device_objects.proofs.same.are_same_marks.Goals as goal

pub returns : goal.returns
returns c = slice_eq-Decides mark_decides _ _ _ c.eq.ensures
