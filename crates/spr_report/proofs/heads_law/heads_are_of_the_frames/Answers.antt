use Rattle.spr_report.proofs.FrameHeads.{begin_both}
use Rattle.spr_report.proofs.heads_law.heads_are_of_the_frames.Goals as goal

pub returns : goal.returns
returns c = λ shape file ops state s above event first second frames.
    begin_both shape file ops state s above event first second (c.heads_are_of_the_letters.ensures shape file ops state s above event) frames
