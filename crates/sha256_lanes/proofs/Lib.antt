mod BlockRounds
mod OneBlock
mod DigestRows
mod HashLanes
mod Choice
mod PieceByPiece
