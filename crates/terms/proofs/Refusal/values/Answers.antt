use Rattle.terms.proofs.Refusal.values.Goals as goal

pub returns-in-Short : goal.returns-in-Short
returns-in-Short c = rw c.in-Short.is

pub returns-in-Mark : goal.returns-in-Mark
returns-in-Mark c = rw c.in-Mark.is

pub returns-in-Count : goal.returns-in-Count
returns-in-Count c = rw c.in-Count.is

pub returns-in-Trailing : goal.returns-in-Trailing
returns-in-Trailing c = rw c.in-Trailing.is

pub returns-in-Range : goal.returns-in-Range
returns-in-Range c = rw c.in-Range.is

pub returns-in-Order : goal.returns-in-Order
returns-in-Order c = rw c.in-Order.is

pub returns-in-Misbehaviour : goal.returns-in-Misbehaviour
returns-in-Misbehaviour c = rw c.in-Misbehaviour.is

pub returns-in-Code : goal.returns-in-Code
returns-in-Code c = rw c.in-Code.is

pub returns-in-OtherBody : goal.returns-in-OtherBody
returns-in-OtherBody c = rw c.in-OtherBody.is

pub returns-in-Unknown : goal.returns-in-Unknown
returns-in-Unknown c = rw c.in-Unknown.is

pub returns-in-TooFew : goal.returns-in-TooFew
returns-in-TooFew c = rw c.in-TooFew.is

pub returns-in-Contradiction : goal.returns-in-Contradiction
returns-in-Contradiction c = rw c.in-Contradiction.is

pub returns-in-Full : goal.returns-in-Full
returns-in-Full c = rw c.in-Full.is

pub returns-in-Group : goal.returns-in-Group
returns-in-Group c = rw c.in-Group.is

pub returns-in-Ahead : goal.returns-in-Ahead
returns-in-Ahead c = rw c.in-Ahead.is

pub returns-in-Table : goal.returns-in-Table
returns-in-Table c = rw c.in-Table.is

pub returns-in-Buffer : goal.returns-in-Buffer
returns-in-Buffer c = rw c.in-Buffer.is

pub returns-in-Old : goal.returns-in-Old
returns-in-Old c = rw c.in-Old.is

pub returns-in-Undecided : goal.returns-in-Undecided
returns-in-Undecided c = rw c.in-Undecided.is

pub returns-in-Passed : goal.returns-in-Passed
returns-in-Passed c = rw c.in-Passed.is

pub returns-in-NotLogged : goal.returns-in-NotLogged
returns-in-NotLogged c = rw c.in-NotLogged.is

pub returns-in-Election : goal.returns-in-Election
returns-in-Election c = rw c.in-Election.is

pub returns-in-LastView : goal.returns-in-LastView
returns-in-LastView c = rw c.in-LastView.is

pub returns-in-Passage : goal.returns-in-Passage
returns-in-Passage c = rw c.in-Passage.is

pub returns-in-Versions : goal.returns-in-Versions
returns-in-Versions c = rw c.in-Versions.is

pub returns-in-Direction : goal.returns-in-Direction
returns-in-Direction c = rw c.in-Direction.is

pub returns-in-AxleCount : goal.returns-in-AxleCount
returns-in-AxleCount c = rw c.in-AxleCount.is

pub returns-in-HotAxle : goal.returns-in-HotAxle
returns-in-HotAxle c = rw c.in-HotAxle.is
