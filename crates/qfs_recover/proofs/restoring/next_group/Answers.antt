use Rattle.std.proofs.Common.{◌∙◌, arith}
use Rattle.qfs_recover.specs.Rest.{course_of}
use Rattle.qfs_recover.proofs.Groups.{group-ends}
use Rattle.qfs_recover.proofs.restoring.next_group.Goals as goal

pub returns-clause-rest : goal.returns-clause-rest
returns-clause-rest c =
    c.deliver.ensures.rest
    ∙ group-ends c.args.layout.now (course_of c.args.layout.now c.args.errand) c.args.grant c.args.group c.args.sources c.args.chunk.items
    (omega (arith, c.if-group-grant.false)) c.requires.room
